use Rattle.std.proofs.Common.{Some, sym, ap, ◌∙◌}
use Rattle.es_records.specs.Records.{RecordsValue}
use Rattle.es_records.proofs.Walked.{key_there, value_at}
use Rattle.es_records.proofs.records.Records.key_at.Goals as goal

pub unreachable-requires : goal.unreachable-requires
unreachable-requires c = key_there c.self.inside.keys c.self.invariant.keys_rising c.args.self.now.keys (ap (λ (r : RecordsValue). r.keys) c.self.view_is) c.args.at c.in-None.ensures c.requires

pub returns : goal.returns
returns c =
    value_at c.self.inside.keys c.self.invariant.keys_rising c.args.self.now.keys (ap (λ (r : RecordsValue). r.keys) c.self.view_is) c.args.at _ c.in-Some.ensures ∙ ap (λ v. Some v) (sym c.get.ensures)
