use Rattle.std.proofs.Common.{sym, ap, ◌∙◌}
use Rattle.es_records.specs.Records.{RecordsValue}
use Rattle.es_records.proofs.Walked.{count_seen}
use Rattle.es_records.proofs.records.Records.key_count.Goals as goal

pub returns : goal.returns
returns c = c.len.ensures.length ∙ sym (count_seen c.self.inside.keys c.self.invariant.keys_rising c.args.self.now.keys (ap (λ (r : RecordsValue). r.keys) c.self.view_is))
