-- Names in order: where a binary search ends, and one name more.
use Rattle.std.proofs.Common.{◌≡◌, ◌<◌, ◌≤◌, ◌⊎◌, inl, inr, nat_lt, ◌-◌, ℕ, zero, suc, List, [], ◌∷◌, ◌++◌, map, length, get_or, slice_get, Bool, true, false, ◌&&◌, Some, None, Ordering, Less, Equal, Greater, nat_cmp, refl, sym, ap, ap₂, ◌∙◌, subst, add-one, arith}
use Rattle.std.specs.List.{list_all, HoldsAt}
use Rattle.std.specs.List.Sorted.{IsSortedBy, IsNonDecreasingBy, IsPartitionPoint}
use Rattle.std.specs.Ordering.{is_lt, is_eq, ordering_reverse, ordering_index}
use Rattle.std.specs.Cmp.Lexicographic.{slice_cmp}
use Rattle.std.specs.Str.{bytes_eq}
use Rattle.std.proofs.lemmas.Bool.{and_parts, false≢true}
use Rattle.std.proofs.lemmas.Cmp.{nat_list_cmp_total}
use Rattle.std.proofs.lemmas.Bool.Decides.{nat_tests}
use Rattle.std.proofs.lemmas.List.Sorted.{searchable_from_sorted}
use Rattle.std.proofs.lemmas.Option.{get_or_from_slice_get}
use Rattle.std.proofs.lemmas.Map.Text.{is_eq-slice_cmp}
use Rattle.std.proofs.lemmas.Slice.Eq.{bytes_eq-Decides}
use Rattle.es_tree.specs.declared.tree.Named.{Named}
use Rattle.es_tree.specs.Rising.{name_of, is_before, is_rising, is_last}
use Rattle.es_tree.specs.Find.{value_named}

pub less : (o : Ordering) → is_lt o ≡ true → o ≡ Less
less Less h = refl
less Equal h = absurd (false≢true h)
less Greater h = absurd (false≢true h)

pub above : (x y : List ℕ) → is_before x y ≡ true → slice_cmp nat_cmp y x ≡ Greater
above x y h = nat_list_cmp_total.antisymm y x ∙ ap ordering_reverse (less _ h)

not_back : (x y : List ℕ) → is_before x y ≡ true → is_before y x ≡ false
not_back x y h = ap is_lt (above x y h)

not_equal : (x y : List ℕ) → is_before x y ≡ true → bytes_eq x y ≡ false
not_equal x y h = sym (is_eq-slice_cmp x y) ∙ ap is_eq (less _ h)

-- a name, seen from one before it and from one behind it
pub after_other : (x y : List ℕ) → is_before x y ≡ true → bytes_eq x y ≡ false
after_other = not_equal

pub before_other : (x y : List ℕ) → is_before x y ≡ true → bytes_eq y x ≡ false
before_other x y h = sym (is_eq-slice_cmp y x) ∙ ap is_eq (above x y h)

pub turned : (x y : List ℕ) → slice_cmp nat_cmp x y ≡ Greater → is_before y x ≡ true
turned x y e = ap is_lt (nat_list_cmp_total.antisymm y x ∙ ap ordering_reverse e)

pub same_name : (x y : List ℕ) → slice_cmp nat_cmp x y ≡ Equal → x ≡ y
same_name x y e = (bytes_eq-Decides x y).0 (sym (is_eq-slice_cmp x y) ∙ ap is_eq e)

pub same_bytes : (x y : List ℕ) → x ≡ y → bytes_eq x y ≡ true
same_bytes x y e = (bytes_eq-Decides x y).1 e

pub before_all : (x y z : List ℕ) → is_before x y ≡ true → is_before y z ≡ true → is_before x z ≡ true
before_all x y z h k = ap is_lt (nat_list_cmp_total.trans x y z (less _ h) (less _ k))

sides : (k i : ℕ) (b : Bool) → nat_lt k i ≡ b → (k < i) ⊎ (i ≤ k)
sides k i true h = inl (grind (arith, nat_tests))
sides k i false h = inr (grind (arith, nat_tests))

and_true : (b c : Bool) → (c ≡ true → b ≡ true) → (b && c) ≡ c
and_true true c h = refl
and_true false true h = absurd (false≢true (h refl))
and_true false false h = refl

and_last : (b : Bool) → (b && true) ≡ b
and_last true = refl
and_last false = refl

module _ {V : Type 0} where
  sorted_at : (ms : List (Named V)) → is_rising (map name_of ms) ≡ true → (k : ℕ) (d : Named V) → suc k < length ms → is_before (get_or ms (suc k) d).name (get_or ms k d).name ≡ false
  sorted_at [] rising k d below = absurd (omega arith)
  sorted_at (m ∷ []) rising k d below = absurd (omega arith)
  sorted_at (m ∷ n ∷ ms) rising zero d below = not_back m.name n.name (and_parts _ _ (and_parts _ _ rising).0).0
  sorted_at (m ∷ n ∷ ms) rising (suc k) d below = sorted_at (n ∷ ms) (and_parts _ _ rising).1 k d (omega arith)

  pub sorted : (ms : List (Named V)) → is_rising (map name_of ms) ≡ true → IsSortedBy (λ a b. is_lt (slice_cmp nat_cmp a.name b.name)) ms
  sorted ms rising k d low below = rw add-one (sorted_at ms rising k d (omega arith))

  below_at : (x : List ℕ) (ms : List (Named V)) → list_all (is_before x) (map name_of ms) ≡ true → (i : ℕ) (d : Named V) → i < length ms → is_before x (get_or ms i d).name ≡ true
  below_at x [] h i d below = absurd (omega arith)
  below_at x (m ∷ ms) h zero d below = (and_parts _ _ h).0
  below_at x (m ∷ ms) h (suc i) d below = below_at x ms (and_parts _ _ h).1 i d (omega arith)

  -- the value at the place of the name
  pub value_named-at : (name : List ℕ) (ms : List (Named V)) → is_rising (map name_of ms) ≡ true → (i : ℕ) (d : Named V) → i < length ms → (get_or ms i d).name ≡ name → value_named name ms ≡ Some (get_or ms i d).value
  value_named-at name [] rising i d below is = absurd (omega arith)
  value_named-at name (m ∷ ms) rising zero d below is = rw ((bytes_eq-Decides m.name name).1 is)
  value_named-at name (m ∷ ms) rising (suc i) d below is =
      let parts = and_parts _ _ rising in
      let before : is_before m.name name ≡ true = subst (λ n. is_before m.name n ≡ true) is (below_at m.name ms parts.0 i d (omega arith)) in
      rw (not_equal m.name name before) (value_named-at name ms parts.1 i d (omega arith) is)

  -- no value, where no name is this one
  pub value_named-none : (name : List ℕ) (ms : List (Named V)) → ((k : ℕ) (d : Named V) → k < length ms → bytes_eq (get_or ms k d).name name ≡ false) → value_named name ms ≡ None
  value_named-none name [] h = refl
  value_named-none name (m ∷ ms) h = rw (h 0 m (omega arith)) (value_named-none name ms (λ k d below. h (suc k) d (omega arith)))

  all_push : (x : List ℕ) (ms : List (Named V)) (m : Named V) → list_all (is_before x) (map name_of ms) ≡ true → is_before x m.name ≡ true → list_all (is_before x) (map name_of (ms ++ m ∷ [])) ≡ true
  all_push x [] m h k = rw k
  all_push x (n ∷ ms) m h k =
      let parts = and_parts (is_before x n.name) (list_all (is_before x) (map name_of ms)) h in
      rw (parts.0, all_push x ms m parts.1 k)

  -- a name more
  pub rising-push : (ms : List (Named V)) (m : Named V) → is_rising (map name_of ms) ≡ true → is_last m.name (map name_of ms) ≡ true → is_rising (map name_of (ms ++ m ∷ [])) ≡ true
  rising-push [] m rising last = refl
  rising-push (n ∷ ms) m rising last =
      let parts = and_parts (list_all (is_before n.name) (map name_of ms)) (is_rising (map name_of ms)) rising in
      let lasts = and_parts (is_before n.name m.name) (is_last m.name (map name_of ms)) last in
      rw (all_push n.name ms m parts.0 lasts.0, rising-push ms m parts.1 lasts.1)

  -- a name comes after all where it comes after the last
  is_last-at : (name : List ℕ) (ms : List (Named V)) (d : Named V) (k : ℕ) → is_rising (map name_of ms) ≡ true → length ms ≡ suc k → is_last name (map name_of ms) ≡ is_before (get_or ms k d).name name
  is_last-at name [] d k rising some = absurd (omega arith)
  is_last-at name (m ∷ []) d zero rising some = and_last (is_before m.name name)
  is_last-at name (m ∷ []) d (suc k) rising some = absurd (omega arith)
  is_last-at name (m ∷ n ∷ ms) d zero rising some = absurd (omega arith)
  is_last-at name (m ∷ n ∷ ms) d (suc k) rising some =
      let parts = and_parts (list_all (is_before m.name) (map name_of (n ∷ ms))) (is_rising (map name_of (n ∷ ms))) rising in
      let last = get_or (n ∷ ms) k d in
      let ih : is_last name (map name_of (n ∷ ms)) ≡ is_before last.name name = is_last-at name (n ∷ ms) d k parts.1 (omega arith) in
      ap (λ b. is_before m.name name && b) ih ∙ and_true _ _ (λ h. before_all m.name last.name name (below_at m.name (n ∷ ms) parts.0 k d (omega arith)) h)

  -- what a binary search by a name says of the value of that name
  pub value_named-found : (name : List ℕ) (ms : List (Named V)) → is_rising (map name_of ms) ≡ true → (i : ℕ) → i < length ms
      → HoldsAt (λ m. slice_cmp nat_cmp m.name name ≡ Equal) ms i → (d : Named V) → value_named name ms ≡ Some (get_or ms i d).value
  value_named-found name ms rising i below equal d =
      let same : bytes_eq (get_or ms i d).name name ≡ true = sym (is_eq-slice_cmp _ name) ∙ ap is_eq (equal d) in
      value_named-at name ms rising i d below ((bytes_eq-Decides _ name).0 same)

  pub value_named-absent : (name : List ℕ) (ms : List (Named V)) → is_rising (map name_of ms) ≡ true → (i : ℕ)
      → (IsNonDecreasingBy (λ m. ordering_index (slice_cmp nat_cmp m.name name)) ms → IsPartitionPoint (λ m. slice_cmp nat_cmp m.name name ≡ Less) (λ m. slice_cmp nat_cmp m.name name ≡ Greater) ms i)
      → value_named name ms ≡ None
  value_named-absent name ms rising i apart =
      let parts = apart (searchable_from_sorted nat_list_cmp_total (λ m. m.name) ms name (sorted ms rising)) in
      value_named-none name ms (λ k d below.
      elim (sides k i (nat_lt k i) refl) as (λ _. bytes_eq (get_or ms k d).name name ≡ false) [
        | inl low ↦ sym (is_eq-slice_cmp _ name) ∙ ap is_eq (parts.0 k d (omega arith) low)
        | inr high ↦ sym (is_eq-slice_cmp _ name) ∙ ap is_eq (parts.1 k d high below)
      ])

  pub is_last-last : (name : List ℕ) (ms : List (Named V)) (last : Named V) → is_rising (map name_of ms) ≡ true → slice_get ms (length ms - 1) ≡ Some last
      → is_last name (map name_of ms) ≡ is_before last.name name
  is_last-last name [] last rising e = absurd (cc)
  is_last-last name (m ∷ ms) last rising e =
      let here : slice_get (m ∷ ms) (length ms) ≡ Some last = ap (slice_get (m ∷ ms)) (omega arith) ∙ e in
      is_last-at name (m ∷ ms) last (length ms) rising refl ∙ ap (λ y. is_before y.name name) (get_or_from_slice_get (m ∷ ms) (length ms) last last here)

-- a name before one that is before all of these
pub all_before : (k l : List ℕ) (xs : List (List ℕ)) → is_before k l ≡ true → list_all (is_before l) xs ≡ true → list_all (is_before k) xs ≡ true
all_before k l [] h a = refl
all_before k l (x ∷ xs) h a = let p = and_parts _ _ a in ap₂ (λ b c. b && c) (before_all k l x h p.0) (all_before k l xs h p.1)
