-- What a caller's proof cites of the words in `specs/Entries.antt`.
use Rattle.std.proofs.Common.{◌≡◌, ℕ, zero, suc, ◌-◌, ◌<◌, Bool, true, false, cond, not, ◌||◌, inl, inr, List, [], ◌∷◌, take, length, get_or, filter, All, Contains, Option, Some, None, is_some, refl, sym, ap, subst, ◌∙◌, if◌then◌else◌}
use Rattle.std.specs.Cmp.{IsEquivalence}
use Rattle.std.specs.List.{AllByRecursion, list_any}
use Rattle.std.specs.Option.{option_map_or}
use Rattle.std.specs.Map.{keys_of, lookup, lookup_entry, remove_entry}
use Rattle.std.proofs.lemmas.List.{length-map, get_or-map}
use Rattle.std.proofs.lemmas.List.Elements.{All-weaker, All-contains, All-contains_itself, All-filter, filter_passes, recursion_from_All}
use Rattle.std.proofs.lemmas.List.Folds.{list_any_at, list_any_none}
use Rattle.lru.specs.LruCache.{lru_cache}
use Rattle.lru.proofs.CallerLemmas.{Contains-lookup_entry, Contains-promoted, Contains-put_entries, lookup-put_entries}
use Rattle.es_cache.specs.Entries.{brought_first, put_first, without_keys}

module _ {K V : Type 0} (test : K → Bool) where
  -- a look-up finds the value of the first entry whose key passes
  lookup-entry : (entries : List (K × V)) (entry : K × V) → lookup_entry test entries ≡ Some entry → lookup test entries ≡ Some entry.1
  lookup-entry [] entry is = cc
  lookup-entry (first ∷ entries) entry is =
      (elim (test first.0) as (λ y. test first.0 ≡ y → lookup test (first ∷ entries) ≡ Some entry.1) [
        | true ↦ λ t. let here = rw t at is in let whole : first ≡ entry = cc in rw t (ap (λ (e : K × V). Some e.1) whole)
        | false ↦ λ t. rw t (lookup-entry entries entry (rw t at is))
      ]) refl

  lookup-none : (entries : List (K × V)) → lookup_entry test entries ≡ None → lookup test entries ≡ None
  lookup-none [] is = refl
  lookup-none (first ∷ entries) is =
      (elim (test first.0) as (λ y. test first.0 ≡ y → lookup test (first ∷ entries) ≡ None) [
        | true ↦ λ t. let here = rw t at is in cc
        | false ↦ λ t. rw t (lookup-none entries (rw t at is))
      ]) refl

  lookup-take : (n : ℕ) (entries : List (K × V)) (found : V) → lookup test (take n entries) ≡ Some found → lookup test entries ≡ Some found
  lookup-take zero entries found is = cc
  lookup-take (suc n) [] found is = is
  lookup-take (suc n) (entry ∷ entries) found is =
      (elim (test entry.0) as (λ y. test entry.0 ≡ y → lookup test (entry ∷ entries) ≡ Some found) [
        | true ↦ λ t. let here = rw t at is in rw t here
        | false ↦ λ t. rw t (lookup-take n entries found (rw t at is))
      ]) refl

-- two tests that agree at each item keep the same items
filter-same : {X : Type 0} (p q : X → Bool) (xs : List X) → AllByRecursion (λ x. p x ≡ q x) xs → filter p xs ≡ filter q xs
filter-same p q [] agree = refl
filter-same p q (x ∷ xs) agree = let more = filter-same p q xs agree.1 in rw (agree.0, more) refl

module _ {K V : Type 0} (P : K × V → Type 0) where
  -- what holds of each entry of a list holds of each entry of one that has no others
  among : (old new : List (K × V)) → ((entry : K × V) → Contains new entry → P entry) → All P new
  among old new each = All-weaker (Contains new) P each new (All-contains_itself new)

  -- what holds of each entry holds after `find`
  pub All-brought_first : (test : K → Bool) (entries : List (K × V)) → All P entries → All P (brought_first test entries)
  All-brought_first test entries all = among entries (brought_first test entries) (λ entry c. All-contains P entries entry all (Contains-promoted test entries entry c))

  -- and after `publish`, if it holds of the value under each equal key
  pub All-put_first : (same : K → K → Bool) → IsEquivalence same → (capacity : ℕ) (key : K) (value : V) (entries : List (K × V))
      → ((stored : K) → same key stored ≡ true → P (stored, value)) → All P entries → All P (put_first same capacity key value entries)
  All-put_first same laws capacity key value entries new all =
      among entries (put_first same capacity key value entries) (λ entry c. elim (Contains-put_entries same (lru_cache entries capacity) key value entry c) [
        | inl old ↦ All-contains P entries entry all old
        | inr put ↦ subst (λ v. P (entry.0, v)) (sym put.0) (new entry.0 (elim put.1 [ inl is ↦ subst (λ k. same key k ≡ true) (sym is) (laws.refl key) | inr stored ↦ stored.2 ]))
      ])

  -- and after `drop_all`
  pub All-without_keys : (same : K → K → Bool) (keys : List K) (entries : List (K × V)) → All P entries → All P (without_keys same keys entries)
  All-without_keys same keys entries all = All-filter (λ entry. not (list_any (λ key. same key entry.0) keys)) P entries all

module _ {K : Type 0} {same : K → K → Bool} (laws : IsEquivalence same) where
  -- two keys that aren't equal have no equal key in common
  apart : (key other stored : K) → same key other ≡ false → same key stored ≡ true → same other stored ≡ false
  apart key other stored differ equal = laws.symm other stored ∙ sym (laws.congr key stored other equal) ∙ differ

  any-congr : (key other : K) → same key other ≡ true → (keys : List K) → list_any (λ k. same k key) keys ≡ list_any (λ k. same k other) keys
  any-congr key other equal [] = refl
  any-congr key other equal (k ∷ keys) = rw (laws.symm k key, laws.congr key other k equal, laws.symm other k) (ap (λ b. same k other || b) (any-congr key other equal keys))

  -- among the keys that pass there is one that is equal to a key, if that passes and there is one among all
  any-filter : (passes : K → Bool) → ((x y : K) → same x y ≡ true → passes x ≡ passes y) → (key : K) (keys : List K)
      → passes key ≡ true → list_any (same key) keys ≡ true → list_any (λ k. same k key) (filter passes keys) ≡ true
  any-filter passes respects key [] pass is = is
  any-filter passes respects key (k ∷ keys) pass is =
      (elim (same key k) as (λ y. same key k ≡ y → list_any (λ j. same j key) (filter passes (k ∷ keys)) ≡ true) [
        | true ↦ λ t. rw (sym (respects key k t) ∙ pass) (rw (laws.symm k key ∙ t) refl)
        | false ↦ λ t. let more = any-filter passes respects key keys pass (rw t at is) in
            elim (passes k) as (λ y. list_any (λ j. same j key) (cond y (k ∷ filter passes keys) (filter passes keys)) ≡ true) [ true ↦ rw (laws.symm k key ∙ t) more | false ↦ more ]
      ]) refl

  -- and none, if it doesn't pass
  none-filter : (passes : K → Bool) → ((x y : K) → same x y ≡ true → passes x ≡ passes y) → (key : K) (keys : List K) → passes key ≡ false → list_any (λ k. same k key) (filter passes keys) ≡ false
  none-filter passes respects key keys fails =
      list_any_none (λ k. same k key) (filter passes keys) (All-weaker (λ k. passes k ≡ true) (λ k. same k key ≡ false) differs (filter passes keys) (filter_passes passes keys))
    where
      differs : (k : K) → passes k ≡ true → same k key ≡ false
      differs k pass = (elim (same k key) as (λ y. same k key ≡ y → y ≡ false) [ true ↦ λ t. let clash : true ≡ false = sym pass ∙ respects k key t ∙ fails in cc | false ↦ λ t. refl ]) refl

module _ {K V : Type 0} {same : K → K → Bool} (laws : IsEquivalence same) where
  lookup-congr : (key other : K) → same key other ≡ true → (entries : List (K × V)) → lookup (same key) entries ≡ lookup (same other) entries
  lookup-congr key other equal [] = refl
  lookup-congr key other equal (entry ∷ entries) = rw (laws.congr key other entry.0 equal) (ap (λ o. cond (same other entry.0) (Some entry.1) o) (lookup-congr key other equal entries))

  lookup-remove_other : (key other : K) → same key other ≡ false → (entries : List (K × V)) → lookup (same other) (remove_entry (same key) entries) ≡ lookup (same other) entries
  lookup-remove_other key other differ [] = refl
  lookup-remove_other key other differ (entry ∷ entries) =
      (elim (same key entry.0) as (λ y. same key entry.0 ≡ y → lookup (same other) (remove_entry (same key) (entry ∷ entries)) ≡ lookup (same other) (entry ∷ entries)) [
        | true ↦ λ t. rw (t, apart laws key other entry.0 differ t) refl
        | false ↦ λ t. rw t (ap (λ o. cond (same other entry.0) (Some entry.1) o) (lookup-remove_other key other differ entries))
      ]) refl

  -- a look-up of any key finds the same after `find` as before it
  pub lookup-brought_first : (key other : K) (entries : List (K × V)) → lookup (same other) (brought_first (same key) entries) ≡ lookup (same other) entries
  lookup-brought_first key other entries = cases (lookup_entry (same key) entries) refl
    where
      cases : (found : Option (K × V)) → lookup_entry (same key) entries ≡ found → lookup (same other) (option_map_or (λ entry. entry ∷ remove_entry (same key) entries) found entries) ≡ lookup (same other) entries
      cases None is = refl
      cases (Some entry) is =
          let equal = (Contains-lookup_entry (same key) entries entry is).1 in
          (elim (same other entry.0) as (λ y. same other entry.0 ≡ y → lookup (same other) (entry ∷ remove_entry (same key) entries) ≡ lookup (same other) entries) [
            | true ↦ λ t. rw t (sym (lookup-congr other key (laws.congr other entry.0 key t ∙ laws.symm entry.0 key ∙ equal) entries ∙ lookup-entry (same key) entries entry is))
            | false ↦ λ t. rw t (lookup-remove_other key other (laws.congr key entry.0 other equal ∙ laws.symm entry.0 other ∙ t) entries)
          ]) refl

  -- a look-up of the key finds the value that was published
  pub lookup-put_first : (capacity : ℕ) (key : K) (value : V) (entries : List (K × V)) → lookup (same key) (put_first same capacity key value entries) ≡ Some value
  lookup-put_first capacity key value entries = lookup-put_entries same (lru_cache entries capacity) key value laws

  -- what a look-up of another key finds then, it found before
  pub lookup-put_first-other : (capacity : ℕ) (key other : K) (value found : V) (entries : List (K × V)) → same key other ≡ false
      → lookup (same other) (put_first same capacity key value entries) ≡ Some found → lookup (same other) entries ≡ Some found
  lookup-put_first-other capacity key other value found entries differ = cases (lookup_entry (same key) entries) refl
    where
      cases : (stored : Option (K × V)) → lookup_entry (same key) entries ≡ stored
          → lookup (same other) (option_map_or (λ entry. (entry.0, value) ∷ remove_entry (same key) entries) stored ((key, value) ∷ take (capacity - 1) entries)) ≡ Some found → lookup (same other) entries ≡ Some found
      cases None is h = lookup-take (same other) (capacity - 1) entries found (rw (apart laws key other key differ (laws.refl key)) at h)
      cases (Some entry) is h = sym (lookup-remove_other key other differ entries) ∙ (rw (apart laws key other entry.0 differ (Contains-lookup_entry (same key) entries entry is).1) at h)

  -- after `drop_all`, a look-up of one of the keys finds nothing, and of another key what it found before
  pub lookup-without_keys : (keys : List K) (other : K) (entries : List (K × V))
      → lookup (same other) (without_keys same keys entries) ≡ (if list_any (λ key. same key other) keys then None else lookup (same other) entries)
  lookup-without_keys keys other [] = let none : Option V = None in elim (list_any (λ key. same key other) keys) as (λ y. none ≡ cond y none none) [ true ↦ refl | false ↦ refl ]
  lookup-without_keys keys other (entry ∷ entries) =
      let more = lookup-without_keys keys other entries in
      (elim (same other entry.0) as (λ y. same other entry.0 ≡ y → lookup (same other) (without_keys same keys (entry ∷ entries)) ≡ (if list_any (λ key. same key other) keys then None else lookup (same other) (entry ∷ entries))) [
        | true ↦ λ t. let here = any-congr laws entry.0 other (laws.symm entry.0 other ∙ t) keys in
            (elim (list_any (λ key. same key other) keys) as (λ z. list_any (λ key. same key other) keys ≡ z → lookup (same other) (without_keys same keys (entry ∷ entries)) ≡ (if list_any (λ key. same key other) keys then None else lookup (same other) (entry ∷ entries))) [
              | true ↦ λ u. rw (here, u) (rw u at more)
              | false ↦ λ u. rw (here, u, t) refl
            ]) refl
        | false ↦ λ t. rw t (elim (list_any (λ key. same key entry.0) keys) as (λ z. lookup (same other) (cond (not z) (entry ∷ without_keys same keys entries) (without_keys same keys entries)) ≡ (if list_any (λ key. same key other) keys then None else lookup (same other) entries)) [
          | true ↦ more
          | false ↦ rw t more
        ])
      ]) refl

  -- the keys that a test finds, dropped, leave the entries whose keys it passes over
  pub without_keys-doomed : (passes : K → Bool) → ((x y : K) → same x y ≡ true → passes x ≡ passes y) → (entries : List (K × V))
      → without_keys same (filter passes (keys_of entries)) entries ≡ filter (λ entry. not (passes entry.0)) entries
  without_keys-doomed passes respects entries = filter-same (λ entry. not (list_any (λ key. same key entry.0) (filter passes (keys_of entries)))) (λ entry. not (passes entry.0)) entries (recursion_from_All (λ entry. not (list_any (λ key. same key entry.0) (filter passes (keys_of entries))) ≡ not (passes entry.0)) entries (λ i d within. at (get_or entries i d) (there i d within)))
    where
      there : (i : ℕ) (d : K × V) → i < length entries → list_any (same (get_or entries i d).0) (keys_of entries) ≡ true
      there i d within =
          list_any_at (same (get_or entries i d).0) (keys_of entries) i d.0 (rw (length-map entries (λ e. e.0)) within) (rw (get_or-map (λ (e : K × V). e.0) entries i d d.0 within) (laws.refl (get_or entries i d).0))

      at : (entry : K × V) → list_any (same entry.0) (keys_of entries) ≡ true → not (list_any (λ key. same key entry.0) (filter passes (keys_of entries))) ≡ not (passes entry.0)
      at entry is = (elim (passes entry.0) as (λ y. passes entry.0 ≡ y → not (list_any (λ key. same key entry.0) (filter passes (keys_of entries))) ≡ not (passes entry.0)) [
        | true ↦ λ t. rw (t, any-filter laws passes respects entry.0 (keys_of entries) t is) refl
        | false ↦ λ t. rw (t, none-filter laws passes respects entry.0 (keys_of entries) t) refl
      ]) refl

-- where equal keys are one value, the key that was published stands first with its value
pub put_first-exact : {K V : Type 0} (same : K → K → Bool) → ((x y : K) → same x y ≡ true → x ≡ y) → (capacity : ℕ) (key : K) (value : V) (entries : List (K × V))
    → put_first same capacity key value entries ≡ (key, value) ∷ (if is_some (lookup (same key) entries) then remove_entry (same key) entries else take (capacity - 1) entries)
put_first-exact {K} {V} same exact capacity key value entries = cases (lookup_entry (same key) entries) refl
  where
    cases : (stored : Option (K × V)) → lookup_entry (same key) entries ≡ stored
        → option_map_or (λ entry. (entry.0, value) ∷ remove_entry (same key) entries) stored ((key, value) ∷ take (capacity - 1) entries) ≡ (key, value) ∷ (if is_some (lookup (same key) entries) then remove_entry (same key) entries else take (capacity - 1) entries)
    cases None is = rw (lookup-none (same key) entries is) refl
    cases (Some entry) is = rw (lookup-entry (same key) entries entry is, sym (exact key entry.0 (Contains-lookup_entry (same key) entries entry is).1)) refl
