-- What is found after a change of entries in order, and how many entries there are then.
use Rattle.std.proofs.Common.{◌≡◌, ◌≢◌, ℕ, suc, List, [], ◌∷◌, length, true, false, Bool, Option, None, Some, is_some, IsSome, Ordering, Less, Equal, Greater, refl, sym, ap, ◌∙◌, cond, nat_cmp, true≢false}
use Rattle.std.specs.Ordering.{is_eq, ordering_reverse, match_ordering}
use Rattle.std.specs.Cmp.{IsTotalOrder, tied_itself, eq_by_cmp_equiv}
use Rattle.std.specs.Cmp.Lexicographic.{slice_cmp}
use Rattle.std.specs.List.Sorted.{IsStrictlySortedBy}
use Rattle.std.specs.Map.{keys_of, lookup, remove_entry}
use Rattle.std.specs.BTreeMap.{insert_entry, is_at}
use Rattle.std.proofs.lemmas.Cmp.{nat_list_cmp_total}
use Rattle.std.proofs.lemmas.Map.{lookup-none, lookup-remove_entry}
use Rattle.std.proofs.lemmas.Map.Entries.{none_below_head}
use Rattle.std.proofs.lemmas.Map.Keys.{IsDistinct-from_sorted}
use Rattle.std.proofs.lemmas.Map.Lookups.{exact_bytes}
use Rattle.es_map.specs.Entries.{IsRising}
use Rattle.es_map.proofs.Entries.{rising_insert, rising_remove}

-- ---- keys in any order that is total
module _ {K X : Type 0} {R : K → K → Ordering} (o : IsTotalOrder R) (k : K) where
  module _ (v : X) where
    -- the key that was inserted has the new value
    pub lookup_inserted : (es : List (K × X)) → lookup (is_at (R k)) (insert_entry R es k v) ≡ Some v
    lookup_inserted [] = rw (tied_itself o k) refl
    lookup_inserted (a ∷ es) = by (R k a.0) refl (lookup_inserted es)
      where
        by : (r : Ordering) → R k a.0 ≡ r → lookup (is_at (R k)) (insert_entry R es k v) ≡ Some v
            → lookup (is_at (R k)) (match_ordering r ((k, v) ∷ a ∷ es) ((a.0, v) ∷ es) (a ∷ insert_entry R es k v)) ≡ Some v
        by Less h more = rw (tied_itself o k) refl
        by Equal h more = rw h refl
        by Greater h more = rw h more

    module _ (q : K) (apart : is_at (R q) k ≡ false) where
      alike : (x : K) → R k x ≡ Equal → R q x ≡ R q k
      alike x h = o.antisymm q x ∙ ap ordering_reverse (sym (o.congr k x q h)) ∙ sym (o.antisymm q k)

      -- and each other key the value that it had
      pub lookup_insert_apart : (es : List (K × X)) → lookup (is_at (R q)) (insert_entry R es k v) ≡ lookup (is_at (R q)) es
      lookup_insert_apart [] = rw apart refl
      lookup_insert_apart (a ∷ es) = by (R k a.0) refl (lookup_insert_apart es)
        where
          by : (r : Ordering) → R k a.0 ≡ r → lookup (is_at (R q)) (insert_entry R es k v) ≡ lookup (is_at (R q)) es
              → lookup (is_at (R q)) (match_ordering r ((k, v) ∷ a ∷ es) ((a.0, v) ∷ es) (a ∷ insert_entry R es k v)) ≡ lookup (is_at (R q)) (a ∷ es)
          by Less h more = rw apart refl
          by Equal h more = rw (alike a.0 h, apart) refl
          by Greater h more = ap (λ u. cond (is_at (R q) a.0) (Some a.1) u) more

    -- a new key is one entry more
    pub length_insert_new : (es : List (K × X)) → lookup (is_at (R k)) es ≡ None → length (insert_entry R es k v) ≡ suc (length es)
    length_insert_new [] none = refl
    length_insert_new (a ∷ es) none = by (R k a.0) none (length_insert_new es)
      where
        by : (r : Ordering) → cond (is_eq r) (Some a.1) (lookup (is_at (R k)) es) ≡ None → (lookup (is_at (R k)) es ≡ None → length (insert_entry R es k v) ≡ suc (length es))
            → length (match_ordering r ((k, v) ∷ a ∷ es) ((a.0, v) ∷ es) (a ∷ insert_entry R es k v)) ≡ suc (suc (length es))
        by Less h more = refl
        by Equal h more = absurd (true≢false (ap is_some h))
        by Greater h more = ap suc (more h)

    -- a known key is not
    pub length_insert_known : (es : List (K × X)) → IsStrictlySortedBy R (keys_of es) → IsSome (lookup (is_at (R k)) es) → length (insert_entry R es k v) ≡ length es
    unfolding IsStrictlySortedBy
    length_insert_known [] s some = absurd (true≢false (sym some))
    length_insert_known (a ∷ es) s some = by (R k a.0) refl some (length_insert_known es s.1)
      where
        by : (r : Ordering) → R k a.0 ≡ r → is_some (cond (is_eq r) (Some a.1) (lookup (is_at (R k)) es)) ≡ true → (IsSome (lookup (is_at (R k)) es) → length (insert_entry R es k v) ≡ length es)
            → length (match_ordering r ((k, v) ∷ a ∷ es) ((a.0, v) ∷ es) (a ∷ insert_entry R es k v)) ≡ suc (length es)
        by Less h found more = absurd (true≢false (sym found ∙ ap is_some (lookup-none (is_at (R k)) es (none_below_head o k a es s h).1)))
        by Equal h found more = refl
        by Greater h found more = ap suc (more found)

  -- the key that was removed has no value, and each other key has the value that it had
  pub lookup_after_removal : (q : K) (es : List (K × X)) → IsStrictlySortedBy R (keys_of es) → lookup (is_at (R q)) (remove_entry (is_at (R k)) es) ≡ cond (is_at (R k) q) None (lookup (is_at (R q)) es)
  lookup_after_removal q es s = let laws = eq_by_cmp_equiv o in lookup-remove_entry laws (is_at (R k)) (laws.congr k) q es (IsDistinct-from_sorted R (keys_of es) s)

module _ {K X : Type 0} (test : K → Bool) where
  -- the removal of a known key leaves one entry less
  pub length_remove_known : (es : List (K × X)) → IsSome (lookup test es) → suc (length (remove_entry test es)) ≡ length es
  length_remove_known [] some = absurd (true≢false (sym some))
  length_remove_known (a ∷ es) some = by (test a.0) some (length_remove_known es)
    where
      by : (b : Bool) → is_some (cond b (Some a.1) (lookup test es)) ≡ true → (IsSome (lookup test es) → suc (length (remove_entry test es)) ≡ length es)
          → suc (length (cond b es (a ∷ remove_entry test es))) ≡ suc (length es)
      by true found more = refl
      by false found more = ap suc (more found)

  -- that of another key changes nothing
  pub remove_unknown : (es : List (K × X)) → lookup test es ≡ None → remove_entry test es ≡ es
  remove_unknown [] none = refl
  remove_unknown (a ∷ es) none = by (test a.0) none (remove_unknown es)
    where
      by : (b : Bool) → cond b (Some a.1) (lookup test es) ≡ None → (lookup test es ≡ None → remove_entry test es ≡ es)
          → cond b es (a ∷ remove_entry test es) ≡ a ∷ es
      by true found more = absurd (true≢false (ap is_some found))
      by false found more = ap (λ u. a ∷ u) (more found)

-- ---- keys in the order of their bytes, as in a map
no_match : (q k : List ℕ) → q ≢ k → is_at (slice_cmp nat_cmp q) k ≡ false
no_match q k apart = by (slice_cmp nat_cmp q k) refl
  where
    by : (r : Ordering) → slice_cmp nat_cmp q k ≡ r → is_eq r ≡ false
    by Less h = refl
    by Equal h = absurd (apart (exact_bytes q k h))
    by Greater h = refl

module _ {X : Type 0} (k : List ℕ) where
  abbrev found : List ℕ → List (List ℕ × X) → Option X
  found q es = lookup (is_at (slice_cmp nat_cmp q)) es

  module _ (q : List ℕ) (apart : q ≢ k) where
    pub lookup_with_other : (v : X) (es : List (List ℕ × X)) → found q (insert_entry (slice_cmp nat_cmp) es k v) ≡ found q es
    lookup_with_other v es = lookup_insert_apart nat_list_cmp_total k v q (no_match q k apart) es

    pub lookup_without_other : (es : List (List ℕ × X)) → IsRising es → found q (remove_entry (is_at (slice_cmp nat_cmp k)) es) ≡ found q es
    lookup_without_other es s = lookup_after_removal nat_list_cmp_total k q es s ∙ (rw (no_match k q (λ e. apart (sym e))) refl)

  pub lookup_with : (v : X) (es : List (List ℕ × X)) → found k (insert_entry (slice_cmp nat_cmp) es k v) ≡ Some v
  lookup_with v es = lookup_inserted nat_list_cmp_total k v es

  pub lookup_without : (es : List (List ℕ × X)) → IsRising es → found k (remove_entry (is_at (slice_cmp nat_cmp k)) es) ≡ None
  lookup_without es s = lookup_after_removal nat_list_cmp_total k k es s ∙ (rw (tied_itself nat_list_cmp_total k) refl)

  pub length_with_new : (v : X) (es : List (List ℕ × X)) → found k es ≡ None → length (insert_entry (slice_cmp nat_cmp) es k v) ≡ suc (length es)
  length_with_new v es none = length_insert_new nat_list_cmp_total k v es none

  pub length_with_known : (v : X) (es : List (List ℕ × X)) → IsRising es → IsSome (found k es) → length (insert_entry (slice_cmp nat_cmp) es k v) ≡ length es
  length_with_known v es s some = length_insert_known nat_list_cmp_total k v es s some

  pub rising_with : (v : X) (es : List (List ℕ × X)) → IsRising es → IsRising (insert_entry (slice_cmp nat_cmp) es k v)
  rising_with v es s = rising_insert (slice_cmp nat_cmp) nat_list_cmp_total k v es s

  pub rising_without : (es : List (List ℕ × X)) → IsRising es → IsRising (remove_entry (is_at (slice_cmp nat_cmp k)) es)
  rising_without es s = rising_remove (slice_cmp nat_cmp) (is_at (slice_cmp nat_cmp k)) es s
