use Rattle.std.proofs.Common.{List, [], ◌∷◌, ◌++◌, ◌∙◌, sym, ap, subst}
use Rattle.std.specs.Prelude.{IsSorted}
use Rattle.es_value.specs.declared.kinds.Value.{Value}
use Rattle.es_value.specs.Order.{value_cmp}
use Rattle.es_match.proofs.SearchEnds.{one_sorted}
use Rattle.es_match.proofs.searching.ValueSet.only.Goals as goal

pub invariant_of-result : goal.invariant_of-result
invariant_of-result c =
    let value = c.args.value in
    subst (IsSorted value_cmp) (sym (c.in_ok-push.ensures.items ∙ ap (λ (l : List Value). l ++ value ∷ []) c.in_ok-values.ensures.items)) (one_sorted value)
