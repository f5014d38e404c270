use Rattle.es_query.proofs.Back.{same_query}
use Rattle.es_query.proofs.laws.same_print_is_same.Goals as goal

pub returns : goal.returns
returns c = same_query
