use Rattle.es_query.proofs.Levels.{query_at_levels}
use Rattle.es_query.proofs.kinds.Query.read.Goals as goal

pub returns-clause-levels : goal.returns-clause-levels
returns-clause-levels c = query_at_levels c.args.tree.now
