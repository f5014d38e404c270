use Rattle.es_request.proofs.Back.{reads_back, body_reads_back, text_reads_back}
use Rattle.es_request.proofs.lawful.laws.Goals as goal

pub returns-clause-reads_back : goal.returns-clause-reads_back
returns-clause-reads_back c = reads_back

pub returns-clause-body_reads_back : goal.returns-clause-body_reads_back
returns-clause-body_reads_back c = body_reads_back

pub returns-clause-text_reads_back : goal.returns-clause-text_reads_back
returns-clause-text_reads_back c = text_reads_back
