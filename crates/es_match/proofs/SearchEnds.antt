-- Where a binary search for a value ends.
use Rattle.std.proofs.Common.{◌≡◌, ◌<◌, ◌≤◌, ◌⊎◌, inl, inr, nat_lt, ℕ, List, [], ◌∷◌, length, get_or, Bool, true, false, Less, Equal, Greater, refl, ap, arith}
use Rattle.std.specs.Prelude.{IsSorted}
use Rattle.std.specs.List.{list_any, HoldsAt}
use Rattle.std.specs.List.Sorted.{IsNonDecreasingBy, IsPartitionPoint}
use Rattle.std.specs.Ordering.{is_eq, ordering_index}
use Rattle.std.proofs.lemmas.Bool.Decides.{nat_tests}
use Rattle.std.proofs.lemmas.List.Folds.{list_any_at, list_any_none}
use Rattle.std.proofs.lemmas.List.Sorted.{searchable_from_sorted}
use Rattle.es_value.specs.declared.kinds.Value.{Value}
use Rattle.es_value.specs.Order.{value_cmp, is_same}
use Rattle.es_value.proofs.Ordered.{value_total}

pub found : (v : Value) (ws : List Value) (i : ℕ) → i < length ws → HoldsAt (λ w. value_cmp w v ≡ Equal) ws i → list_any (λ w. is_same w v) ws ≡ true
found v ws i below equal = list_any_at (λ w. is_same w v) ws i v below (ap is_eq (equal v))

sides : (k i : ℕ) (b : Bool) → nat_lt k i ≡ b → (k < i) ⊎ (i ≤ k)
sides k i true h = inl (grind (arith, nat_tests))
sides k i false h = inr (grind (arith, nat_tests))

pub absent : (v : Value) (ws : List Value) → IsSorted value_cmp ws → (i : ℕ)
    → (IsNonDecreasingBy (λ w. ordering_index (value_cmp w v)) ws → IsPartitionPoint (λ w. value_cmp w v ≡ Less) (λ w. value_cmp w v ≡ Greater) ws i)
    → list_any (λ w. is_same w v) ws ≡ false
absent v ws up i apart =
    let parts = apart (searchable_from_sorted value_total (λ w. w) ws v up) in
    list_any_none (λ w. is_same w v) ws (λ k d below.
    elim (sides k i (nat_lt k i) refl) as (λ _. is_same (get_or ws k d) v ≡ false) [
      | inl low ↦ ap is_eq (parts.0 k d (omega arith) low)
      | inr high ↦ ap is_eq (parts.1 k d high below)
    ])

pub one_sorted : (v : Value) → IsSorted value_cmp (v ∷ [])
one_sorted v k d low below = absurd (omega arith)
