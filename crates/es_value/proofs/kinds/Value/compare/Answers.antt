use Rattle.es_value.proofs.Ordered.{value_total, value_ties}
use Rattle.es_value.proofs.kinds.Value.compare.Goals as goal

pub returns-clause-ties : goal.returns-clause-ties
returns-clause-ties c = value_ties c.args.self.now c.args.other.now

pub returns-clause-total : goal.returns-clause-total
returns-clause-total c = value_total
