use Rattle.std.proofs.Common.{rules}
use Rattle.es_priv.proofs.Laws.{grants_of_iff, same_answer}
use Rattle.es_priv.proofs.table.grants.Goals as goal

pub returns-clause-value : goal.returns-clause-value
returns-clause-value c = same_answer c.contains.result _ (search rules) (grants_of_iff c.args.privilege c.args.action)
