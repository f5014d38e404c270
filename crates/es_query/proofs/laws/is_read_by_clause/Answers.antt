use Rattle.es_query.proofs.Levels.{query_form-clause}
use Rattle.es_query.proofs.laws.is_read_by_clause.Goals as goal

pub returns : goal.returns
returns c = query_form-clause
