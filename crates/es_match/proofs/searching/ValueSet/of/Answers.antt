use Rattle.std.proofs.Common.{rules}
use Rattle.std.specs.Ordering.{is_lt}
use Rattle.std.proofs.lemmas.List.MinMax.{ranks_by}
use Rattle.std.proofs.lemmas.Fn.{always_returns_same}
use Rattle.es_value.specs.Order.{value_cmp}
use Rattle.es_value.proofs.Ordered.{value_total}
use Rattle.es_match.proofs.searching.ValueSet.of.Goals as goal

pub invariant_of-result : goal.invariant_of-result
invariant_of-result c =
    c.sort_unstable_by.ensures.sorted (λ x y. is_lt (value_cmp x y)) (ranks_by value_total (λ v. v)) (always_returns_same _ _ _ (λ a r next called. (search rules, search rules)))
