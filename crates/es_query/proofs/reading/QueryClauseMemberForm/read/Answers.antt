use Rattle.std.proofs.Common.{ℕ, List, Result, subst}
use Rattle.es_grammar.specs.Reading.{Gives}
use Rattle.es_query.specs.declared.kinds.Query.{Query}
use Rattle.es_query.proofs.Levels.{clause_form_most, fewer_is_less}
use Rattle.es_query.proofs.reading.QueryClauseMemberForm.read.Goals as goal

pub returns : goal.returns
returns c = subst (λ (r : Result Query (List ℕ)). Gives c.clause.result r) (clause_form_most 18446744073709551614 fewer_is_less c.args.name.now c.args.tree.now) c.clause.ensures
