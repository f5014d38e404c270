-- A list of entries in order, parted at one of them: what a look-up, an insert and a removal do on either side.
use Rattle.std.proofs.Common.{◌≡◌, ℕ, ◌+◌, ◌<◌, zero, suc, List, [], ◌∷◌, ◌++◌, length, drop, slice_get, Bool, true, false, Some, None, Ordering, Less, Equal, Greater, refl, sym, ap, ◌∙◌, subst, arith, append_assoc, cond}
use Rattle.std.specs.Ordering.{is_eq, ordering_reverse, match_ordering}
use Rattle.std.specs.Cmp.{IsTotalOrder}
use Rattle.std.specs.List.{AllByRecursion}
use Rattle.std.specs.List.Sorted.{IsStrictlySortedBy}
use Rattle.std.specs.Map.{keys_of, lookup, remove_entry}
use Rattle.std.specs.BTreeMap.{insert_entry, is_at}

module _ {K : Type 0} (P Q : K → Type 0) (along : (k : K) → P k → Q k) where
  pub all_along : (ks : List K) → AllByRecursion P ks → AllByRecursion Q ks
  all_along [] h = tt
  all_along (k ∷ ks) h = (along k h.0, all_along ks h.1)

module _ {K X : Type 0} (P : K → Type 0) where
  all_front : (l t : List (K × X)) → AllByRecursion P (keys_of (l ++ t)) → AllByRecursion P (keys_of l)
  all_front [] t h = tt
  all_front (a ∷ l) t h = (h.0, all_front l t h.1)

  all_back : (l t : List (K × X)) → AllByRecursion P (keys_of (l ++ t)) → AllByRecursion P (keys_of t)
  all_back [] t h = h
  all_back (a ∷ l) t h = all_back l t h.1

  all_insert : (R : K → K → Ordering) (k : K) (v : X) → P k → (es : List (K × X)) → AllByRecursion P (keys_of es) → AllByRecursion P (keys_of (insert_entry R es k v))
  all_insert R k v p [] h = (p, tt)
  all_insert R k v p (a ∷ es) h = by (R k a.0) (all_insert R k v p es h.1)
    where
      by : (r : Ordering) → AllByRecursion P (keys_of (insert_entry R es k v)) → AllByRecursion P (keys_of (match_ordering r ((k, v) ∷ a ∷ es) ((a.0, v) ∷ es) (a ∷ insert_entry R es k v)))
      by Less more = (p, h)
      by Equal more = h
      by Greater more = (h.0, more)

  all_remove : (test : K → Bool) (es : List (K × X)) → AllByRecursion P (keys_of es) → AllByRecursion P (keys_of (remove_entry test es))
  all_remove test [] h = tt
  all_remove test (a ∷ es) h = by (test a.0) (all_remove test es h.1)
    where
      by : (b : Bool) → AllByRecursion P (keys_of (remove_entry test es)) → AllByRecursion P (keys_of (cond b es (a ∷ remove_entry test es)))
      by true more = h.1
      by false more = (h.0, more)

pub rising_none : {K : Type 0} (R : K → K → Ordering) → IsStrictlySortedBy R []
unfolding IsStrictlySortedBy
rising_none R = tt

pub turned : {K : Type 0} {R : K → K → Ordering} → IsTotalOrder R → (x y : K) → R x y ≡ Less → R y x ≡ Greater
turned o x y h = o.antisymm y x ∙ ap ordering_reverse h

turned_back : {K : Type 0} {R : K → K → Ordering} → IsTotalOrder R → (x y : K) → R x y ≡ Greater → R y x ≡ Less
turned_back o x y h = o.antisymm y x ∙ ap ordering_reverse h

module _ {K X : Type 0} (R : K → K → Ordering) where
  pub rising_front : (l t : List (K × X)) → IsStrictlySortedBy R (keys_of (l ++ t)) → IsStrictlySortedBy R (keys_of l)
  unfolding IsStrictlySortedBy
  rising_front [] t s = tt
  rising_front (a ∷ l) t s = (all_front (λ y. R a.0 y ≡ Less) l t s.0, rising_front l t s.1)

  pub rising_back : (l t : List (K × X)) → IsStrictlySortedBy R (keys_of (l ++ t)) → IsStrictlySortedBy R (keys_of t)
  unfolding IsStrictlySortedBy
  rising_back [] t s = s
  rising_back (a ∷ l) t s = rising_back l t s.1

  -- the keys before an entry come before its key
  pub below : (l : List (K × X)) (e : K × X) (r : List (K × X)) → IsStrictlySortedBy R (keys_of (l ++ e ∷ r)) → AllByRecursion (λ k. R k e.0 ≡ Less) (keys_of l)
  unfolding IsStrictlySortedBy
  below [] e r s = tt
  below (a ∷ l) e r s = ((all_back (λ y. R a.0 y ≡ Less) l (e ∷ r) s.0).0, below l e r s.1)

  -- the keys after an entry come after its key
  pub above : (l : List (K × X)) (e : K × X) (r : List (K × X)) → IsStrictlySortedBy R (keys_of (l ++ e ∷ r)) → AllByRecursion (λ k. R e.0 k ≡ Less) (keys_of r)
  unfolding IsStrictlySortedBy
  above [] e r s = s.0
  above (a ∷ l) e r s = above l e r s.1

  pub rising_remove : (test : K → Bool) (es : List (K × X)) → IsStrictlySortedBy R (keys_of es) → IsStrictlySortedBy R (keys_of (remove_entry test es))
  unfolding IsStrictlySortedBy
  rising_remove test [] s = tt
  rising_remove test (a ∷ es) s = by (test a.0) (rising_remove test es s.1)
    where
      by : (b : Bool) → IsStrictlySortedBy R (keys_of (remove_entry test es)) → IsStrictlySortedBy R (keys_of (cond b es (a ∷ remove_entry test es)))
      by true more = s.1
      by false more = (all_remove (λ y. R a.0 y ≡ Less) test es s.0, more)

  module _ (o : IsTotalOrder R) where
    pub rising_insert : (k : K) (v : X) (es : List (K × X)) → IsStrictlySortedBy R (keys_of es) → IsStrictlySortedBy R (keys_of (insert_entry R es k v))
    unfolding IsStrictlySortedBy
    rising_insert k v [] s = (tt, tt)
    rising_insert k v (a ∷ es) s = by (R k a.0) refl (rising_insert k v es s.1)
      where
        by : (r : Ordering) → R k a.0 ≡ r → IsStrictlySortedBy R (keys_of (insert_entry R es k v)) → IsStrictlySortedBy R (keys_of (match_ordering r ((k, v) ∷ a ∷ es) ((a.0, v) ∷ es) (a ∷ insert_entry R es k v)))
        by Less h more = ((h, all_along (λ y. R a.0 y ≡ Less) (λ y. R k y ≡ Less) (λ y g. o.trans k a.0 y h g) (keys_of es) s.0), s)
        by Equal h more = s
        by Greater h more = (all_insert (λ y. R a.0 y ≡ Less) R k v (turned_back o k a.0 h) es s.0, more)

  -- ---- a change or a look-up on the left side of an entry
  pub insert_left : (k : K) (v : X) (l : List (K × X)) (e : K × X) (r : List (K × X)) → R k e.0 ≡ Less → insert_entry R (l ++ e ∷ r) k v ≡ insert_entry R l k v ++ e ∷ r
  insert_left k v [] e r h = rw h refl
  insert_left k v (a ∷ l) e r h = by (R k a.0) (insert_left k v l e r h)
    where
      by : (o : Ordering) → insert_entry R (l ++ e ∷ r) k v ≡ insert_entry R l k v ++ e ∷ r → match_ordering o ((k, v) ∷ a ∷ (l ++ e ∷ r)) ((a.0, v) ∷ (l ++ e ∷ r)) (a ∷ insert_entry R (l ++ e ∷ r) k v) ≡ match_ordering o ((k, v) ∷ a ∷ l) ((a.0, v) ∷ l) (a ∷ insert_entry R l k v) ++ e ∷ r
      by Less more = refl
      by Equal more = refl
      by Greater more = ap (λ t. a ∷ t) more

  insert_past : (k : K) (v : X) (l t : List (K × X)) → AllByRecursion (λ y. R k y ≡ Greater) (keys_of l) → insert_entry R (l ++ t) k v ≡ l ++ insert_entry R t k v
  insert_past k v [] t h = refl
  insert_past k v (a ∷ l) t h = rw h.0 (ap (λ u. a ∷ u) (insert_past k v l t h.1))

lookup_past : {K X : Type 0} (test : K → Bool) (l t : List (K × X)) → AllByRecursion (λ y. test y ≡ false) (keys_of l) → lookup test (l ++ t) ≡ lookup test t
lookup_past test [] t h = refl
lookup_past test (a ∷ l) t h = rw h.0 (lookup_past test l t h.1)

lookup_nowhere : {K X : Type 0} (test : K → Bool) (t : List (K × X)) → AllByRecursion (λ y. test y ≡ false) (keys_of t) → lookup test t ≡ None
lookup_nowhere test [] h = refl
lookup_nowhere test (a ∷ t) h = rw h.0 (lookup_nowhere test t h.1)

lookup_before : {K X : Type 0} (test : K → Bool) (l t : List (K × X)) → lookup test t ≡ None → lookup test (l ++ t) ≡ lookup test l
lookup_before test [] t h = h
lookup_before test (a ∷ l) t h = ap (λ u. cond (test a.0) (Some a.1) u) (lookup_before test l t h)

remove_past : {K X : Type 0} (test : K → Bool) (l t : List (K × X)) → AllByRecursion (λ y. test y ≡ false) (keys_of l) → remove_entry test (l ++ t) ≡ l ++ remove_entry test t
remove_past test [] t h = refl
remove_past test (a ∷ l) t h = rw h.0 (ap (λ u. a ∷ u) (remove_past test l t h.1))

remove_nowhere : {K X : Type 0} (test : K → Bool) (t : List (K × X)) → AllByRecursion (λ y. test y ≡ false) (keys_of t) → remove_entry test t ≡ t
remove_nowhere test [] h = refl
remove_nowhere test (a ∷ t) h = rw h.0 (ap (λ u. a ∷ u) (remove_nowhere test t h.1))

remove_before : {K X : Type 0} (test : K → Bool) (l t : List (K × X)) → remove_entry test t ≡ t → remove_entry test (l ++ t) ≡ remove_entry test l ++ t
remove_before test [] t h = h
remove_before test (a ∷ l) t h = by (test a.0) (remove_before test l t h)
  where
    by : (b : Bool) → remove_entry test (l ++ t) ≡ remove_entry test l ++ t → cond b (l ++ t) (a ∷ remove_entry test (l ++ t)) ≡ cond b l (a ∷ remove_entry test l) ++ t
    by true more = refl
    by false more = ap (λ u. a ∷ u) more

module _ {K X : Type 0} {R : K → K → Ordering} (o : IsTotalOrder R) (k : K) (l : List (K × X)) (e : K × X) (r : List (K × X)) (s : IsStrictlySortedBy R (keys_of (l ++ e ∷ r))) where
  -- no key from the entry on is k, where k comes before it
  from_here : R k e.0 ≡ Less → AllByRecursion (λ y. is_at (R k) y ≡ false) (keys_of (e ∷ r))
  from_here h = (ap is_eq h, all_along (λ y. R e.0 y ≡ Less) (λ y. is_at (R k) y ≡ false) (λ y g. ap is_eq (o.trans k e.0 y h g)) (keys_of r) (above R l e r s))

  -- the keys before the entry come before k, where the entry does
  pub passed : R k e.0 ≡ Greater → AllByRecursion (λ y. R k y ≡ Greater) (keys_of l)
  passed h = all_along (λ y. R y e.0 ≡ Less) (λ y. R k y ≡ Greater) (λ y g. turned o y k (o.trans y e.0 k g (turned_back o k e.0 h))) (keys_of l) (below R l e r s)

  -- the same where k is the entry's key
  pub passed_here : R k e.0 ≡ Equal → AllByRecursion (λ y. R k y ≡ Greater) (keys_of l)
  passed_here h = all_along (λ y. R y e.0 ≡ Less) (λ y. R k y ≡ Greater) (λ y g. o.congr k e.0 y h ∙ turned o y e.0 g) (keys_of l) (below R l e r s)

  not_at : AllByRecursion (λ y. R k y ≡ Greater) (keys_of l) → AllByRecursion (λ y. is_at (R k) y ≡ false) (keys_of l)
  not_at = all_along (λ y. R k y ≡ Greater) (λ y. is_at (R k) y ≡ false) (λ y g. ap is_eq g) (keys_of l)

  pub lookup_left : R k e.0 ≡ Less → lookup (is_at (R k)) (l ++ e ∷ r) ≡ lookup (is_at (R k)) l
  lookup_left h = lookup_before (is_at (R k)) l (e ∷ r) (lookup_nowhere (is_at (R k)) (e ∷ r) (from_here h))

  pub lookup_here : R k e.0 ≡ Equal → lookup (is_at (R k)) (l ++ e ∷ r) ≡ Some e.1
  lookup_here h = lookup_past (is_at (R k)) l (e ∷ r) (not_at (passed_here h)) ∙ (rw h refl)

  pub lookup_right : R k e.0 ≡ Greater → lookup (is_at (R k)) (l ++ e ∷ r) ≡ lookup (is_at (R k)) r
  lookup_right h = lookup_past (is_at (R k)) l (e ∷ r) (not_at (passed h)) ∙ (rw h refl)

  pub insert_here : (v : X) → R k e.0 ≡ Equal → insert_entry R (l ++ e ∷ r) k v ≡ l ++ (e.0, v) ∷ r
  insert_here v h = insert_past R k v l (e ∷ r) (passed_here h) ∙ (rw h refl)

  pub insert_right : (v : X) → R k e.0 ≡ Greater → insert_entry R (l ++ e ∷ r) k v ≡ l ++ e ∷ insert_entry R r k v
  insert_right v h = insert_past R k v l (e ∷ r) (passed h) ∙ (rw h refl)

  pub remove_left : R k e.0 ≡ Less → remove_entry (is_at (R k)) (l ++ e ∷ r) ≡ remove_entry (is_at (R k)) l ++ e ∷ r
  remove_left h = remove_before (is_at (R k)) l (e ∷ r) (remove_nowhere (is_at (R k)) (e ∷ r) (from_here h))

  pub remove_here : R k e.0 ≡ Equal → remove_entry (is_at (R k)) (l ++ e ∷ r) ≡ l ++ r
  remove_here h = remove_past (is_at (R k)) l (e ∷ r) (not_at (passed_here h)) ∙ (rw h refl)

  pub remove_right : R k e.0 ≡ Greater → remove_entry (is_at (R k)) (l ++ e ∷ r) ≡ l ++ e ∷ remove_entry (is_at (R k)) r
  remove_right h = remove_past (is_at (R k)) l (e ∷ r) (not_at (passed h)) ∙ (rw h refl)

-- ---- by places
module _ {E : Type 0} where
  pub place_left : (l t : List E) (i : ℕ) → i < length l → slice_get (l ++ t) i ≡ slice_get l i
  place_left [] t i h = absurd (omega arith)
  place_left (a ∷ l) t zero h = refl
  place_left (a ∷ l) t (suc i) h = place_left l t i (omega arith)

  pub place_here : (l : List E) (e : E) (r : List E) → slice_get (l ++ e ∷ r) (length l) ≡ Some e
  place_here [] e r = refl
  place_here (a ∷ l) e r = place_here l e r

  pub place_right : (l : List E) (e : E) (r : List E) (i j : ℕ) → i ≡ length l + suc j → slice_get (l ++ e ∷ r) i ≡ slice_get r j
  place_right [] e r i j h = let is : i ≡ suc j = omega arith in rw is refl
  place_right (a ∷ l) e r zero j h = absurd (omega arith)
  place_right (a ∷ l) e r (suc i) j h = place_right l e r i j (omega arith)

  pub nothing_first : (l : List E) → None ≡ slice_get l 0 → l ≡ []
  nothing_first [] h = refl
  nothing_first (a ∷ l) h = absurd (cc)

-- ---- two entries, and what stands before, between and after them
module _ {K X : Type 0} (R : K → K → Ordering) where
  pub rising_low : (a : List (K × X)) (d : K × X) (b : List (K × X)) (e : K × X) (c : List (K × X)) → IsStrictlySortedBy R (keys_of (a ++ d ∷ (b ++ e ∷ c))) → IsStrictlySortedBy R (keys_of (a ++ d ∷ b))
  rising_low a d b e c s = rising_front R (a ++ d ∷ b) (e ∷ c) (subst (λ l. IsStrictlySortedBy R (keys_of l)) (sym (append_assoc a (d ∷ b) (e ∷ c))) s)

  pub rising_after : (a : List (K × X)) (d : K × X) (t : List (K × X)) → IsStrictlySortedBy R (keys_of (a ++ d ∷ t)) → IsStrictlySortedBy R (keys_of t)
  rising_after a d t s = rising_back R (a ++ d ∷ []) t (subst (λ l. IsStrictlySortedBy R (keys_of l)) (sym (append_assoc a (d ∷ []) t)) s)

  pub rising_high : (a : List (K × X)) (d : K × X) (b : List (K × X)) (e : K × X) (c : List (K × X)) → IsStrictlySortedBy R (keys_of ((a ++ d ∷ b) ++ e ∷ c)) → IsStrictlySortedBy R (keys_of (b ++ e ∷ c))
  rising_high a d b e c s = rising_after a d (b ++ e ∷ c) (subst (λ l. IsStrictlySortedBy R (keys_of l)) (append_assoc a (d ∷ b) (e ∷ c)) s)

  pub rising_alone : (e : K × X) → IsStrictlySortedBy R (keys_of (e ∷ []))
  unfolding IsStrictlySortedBy
  rising_alone e = (tt, tt)

  pub rising_rest : (l t : List (K × X)) → IsStrictlySortedBy R (keys_of (l ++ t)) → IsStrictlySortedBy R (keys_of (drop 1 l ++ t))
  unfolding IsStrictlySortedBy
  rising_rest [] t s = s
  rising_rest (a ∷ l) t s = s.1

pub drop_front : {E : Type 0} (l t : List E) → (l ≡ [] → ⊥) → drop 1 (l ++ t) ≡ drop 1 l ++ t
drop_front [] t h = absurd (h refl)
drop_front (a ∷ l) t h = refl
