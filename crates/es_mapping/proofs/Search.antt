-- Where a binary search by a path ends.
use Rattle.std.proofs.Common.{◌≡◌, ◌<◌, ◌≤◌, ◌⊎◌, inl, inr, nat_lt, ℕ, zero, suc, List, [], ◌∷◌, map, length, get_or, Bool, true, false, Some, None, Less, Equal, Greater, refl, ap, subst, add-one, arith}
use Rattle.std.specs.List.{list_all, HoldsAt}
use Rattle.std.specs.List.Sorted.{IsSortedBy, IsNonDecreasingBy, IsPartitionPoint}
use Rattle.std.specs.Ordering.{is_lt, is_eq, ordering_index}
use Rattle.std.specs.Str.{bytes_eq}
use Rattle.std.proofs.lemmas.Bool.{and_parts}
use Rattle.std.proofs.lemmas.Bool.Decides.{nat_tests}
use Rattle.std.proofs.lemmas.List.Sorted.{searchable_from_sorted}
use Rattle.std.proofs.lemmas.Slice.Eq.{bytes_eq-Decides}
use Rattle.es_tree.specs.declared.tree.Named.{Named}
use Rattle.es_tree.specs.Rising.{name_of}
use Rattle.es_tree.specs.Find.{value_named}
use Rattle.es_tree.proofs.Names.{value_named-none}
use Rattle.es_mapping.specs.Paths.{path_cmp, comes_before, are_rising}
use Rattle.es_mapping.proofs.Pieces.{path_total, same_path, not_back, differs, are_ordered, are_ordered-rising, unequal}

sides : (k i : ℕ) (b : Bool) → nat_lt k i ≡ b → (k < i) ⊎ (i ≤ k)
sides k i true h = inl (grind (arith, nat_tests))
sides k i false h = inr (grind (arith, nat_tests))

module _ {V : Type 0} where
  below_at : (x : List ℕ) (ms : List (Named V)) → list_all (comes_before x) (map name_of ms) ≡ true → (i : ℕ) (d : Named V) → i < length ms → comes_before x (get_or ms i d).name ≡ true
  below_at x [] h i d below = absurd (omega arith)
  below_at x (m ∷ ms) h zero d below = (and_parts _ _ h).0
  below_at x (m ∷ ms) h (suc i) d below = below_at x ms (and_parts _ _ h).1 i d (omega arith)

  sorted_at : (ms : List (Named V)) → are_ordered (map name_of ms) ≡ true → (k : ℕ) (d : Named V) → suc k < length ms → comes_before (get_or ms (suc k) d).name (get_or ms k d).name ≡ false
  sorted_at [] up k d below = absurd (omega arith)
  sorted_at (m ∷ ms) up zero d below = not_back m.name (get_or ms 0 d).name (below_at m.name ms (and_parts _ _ up).0 0 d (omega arith))
  sorted_at (m ∷ ms) up (suc k) d below = sorted_at ms (and_parts _ _ up).1 k d (omega arith)

  sorted : (ms : List (Named V)) → are_ordered (map name_of ms) ≡ true → IsSortedBy (λ a b. is_lt (path_cmp a.name b.name)) ms
  sorted ms up k d low below = rw add-one (sorted_at ms up k d (omega arith))

  pub value_named-at : (name : List ℕ) (ms : List (Named V)) → are_ordered (map name_of ms) ≡ true → (i : ℕ) (d : Named V) → i < length ms → (get_or ms i d).name ≡ name → value_named name ms ≡ Some (get_or ms i d).value
  value_named-at name [] up i d below is = absurd (omega arith)
  value_named-at name (m ∷ ms) up zero d below is = rw ((bytes_eq-Decides m.name name).1 is)
  value_named-at name (m ∷ ms) up (suc i) d below is =
      let parts = and_parts _ _ up in
      let before : comes_before m.name name ≡ true = subst (λ n. comes_before m.name n ≡ true) is (below_at m.name ms parts.0 i d (omega arith)) in
      rw (differs m.name name before) (value_named-at name ms parts.1 i d (omega arith) is)

  -- what a binary search by a path says of the value at that path
  pub value_named-found : (name : List ℕ) (ms : List (Named V)) → are_rising (map name_of ms) ≡ true → (i : ℕ) → i < length ms
      → HoldsAt (λ m. path_cmp m.name name ≡ Equal) ms i → (d : Named V) → value_named name ms ≡ Some (get_or ms i d).value
  value_named-found name ms rising i below equal d = value_named-at name ms (are_ordered-rising _ rising) i d below (same_path _ name (ap is_eq (equal d)))

  pub value_named-absent : (name : List ℕ) (ms : List (Named V)) → are_rising (map name_of ms) ≡ true → (i : ℕ)
      → (IsNonDecreasingBy (λ m. ordering_index (path_cmp m.name name)) ms → IsPartitionPoint (λ m. path_cmp m.name name ≡ Less) (λ m. path_cmp m.name name ≡ Greater) ms i)
      → value_named name ms ≡ None
  value_named-absent name ms rising i apart =
      let parts = apart (searchable_from_sorted path_total (λ m. m.name) ms name (sorted ms (are_ordered-rising _ rising))) in
      value_named-none name ms (λ k d below.
      elim (sides k i (nat_lt k i) refl) as (λ _. bytes_eq (get_or ms k d).name name ≡ false) [
        | inl low ↦ unequal (get_or ms k d).name name (ap is_eq (parts.0 k d (omega arith) low))
        | inr high ↦ unequal (get_or ms k d).name name (ap is_eq (parts.1 k d high below))
      ])
