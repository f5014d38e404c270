use Rattle.es_keys.proofs.Ids.{ids_differ}
use Rattle.es_keys.proofs.Lasting.{lasts}
use Rattle.es_keys.proofs.Plain.{plain_ids, made_back}
use Rattle.es_keys.proofs.Sent.{sent_back}
use Rattle.es_keys.proofs.lawful.laws.Goals as goal

pub returns-clause-encoded_back : goal.returns-clause-encoded_back
returns-clause-encoded_back c = sent_back

pub returns-clause-ids_plain : goal.returns-clause-ids_plain
returns-clause-ids_plain c = plain_ids

pub returns-clause-made_back : goal.returns-clause-made_back
returns-clause-made_back c = made_back

pub returns-clause-ids_apart : goal.returns-clause-ids_apart
returns-clause-ids_apart c = ids_differ

pub returns-clause-made_unexpired : goal.returns-clause-made_unexpired
returns-clause-made_unexpired c = lasts
