use Rattle.std.proofs.Common.{ℕ, List, Result, IfOk, IsTrue, subst}
use Rattle.es_grammar.specs.Reading.{Gives}
use Rattle.es_query.specs.declared.kinds.Query.{Query}
use Rattle.es_query.proofs.Levels.{query_at_most, greatest_is_most}
use Rattle.es_query.proofs.Back.{given_sound}
use Rattle.es_query.proofs.reading.QueryFormForm.read.Goals as goal

pub returns-clause-gives : goal.returns-clause-gives
returns-clause-gives c = subst (λ (r : Result Query (List ℕ)). Gives c.query.result r) (query_at_most 18446744073709551615 greatest_is_most c.args.tree.now) c.query.ensures

pub returns-clause-sound : goal.returns-clause-sound
returns-clause-sound c = given_sound c.args.tree.now c.query.result (subst (λ (r : Result Query (List ℕ)). Gives c.query.result r) (query_at_most 18446744073709551615 greatest_is_most c.args.tree.now) c.query.ensures)
