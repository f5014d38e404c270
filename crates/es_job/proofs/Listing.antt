-- What a walk over a list has kept of it, one place further.
use Rattle.std.proofs.Common.{◌≡◌, ℕ, ◌+◌, ◌≤◌, List, [], ◌∷◌, ◌++◌, map as list_map, length, take, slice_get, Bool, true, false, Some, refl, sym, ap, ◌∙◌, arith, append-nil, if◌then◌else◌}
use Rattle.std.specs.List.{filter}
use Rattle.std.specs.Option.{unwrap_or}
use Rattle.std.specs.FinMap as map
use Rattle.std.proofs.lemmas.List.{take_more, take_all, map-append, length-map}
use Rattle.std.proofs.lemmas.List.Elements.{filter-append}
use Rattle.std.proofs.lemmas.Option.{slice_get_within, unwrap_or-slice_get}
use Rattle.es_catalog.specs.Catalog.{text_cmp}

taken : {Y : Type 0} (xs : List Y) (i : ℕ) (x : Y) → slice_get xs i ≡ Some x → take (i + 1) xs ≡ take i xs ++ x ∷ []
taken xs i x h = take_more xs i x (slice_get_within xs i x h) ∙ ap (λ y. take i xs ++ y ∷ []) (sym (unwrap_or-slice_get xs i x) ∙ ap (λ o. unwrap_or o x) h)

module _ {A B : Type 0} (p : A → Bool) (f : A → B) (xs : List A) where
  -- what the first of them give that pass the test
  abbrev pub kept_of : ℕ → List B
  kept_of i = list_map f (filter p (take i xs))

  pub kept_all : (i n : ℕ) → n ≡ length xs → n ≤ i → kept_of i ≡ list_map f (filter p xs)
  kept_all i n is past = ap (λ l. list_map f (filter p l)) (take_all i xs (omega arith))

  module _ (i : ℕ) (x : A) (at : slice_get xs i ≡ Some x) where
    more : kept_of (i + 1) ≡ kept_of i ++ list_map f (filter p (x ∷ []))
    more = ap (λ l. list_map f (filter p l)) (taken xs i x at) ∙ ap (list_map f) (filter-append p (take i xs) (x ∷ [])) ∙ map-append f (filter p (take i xs)) (filter p (x ∷ []))

    pub kept_one : (before after : List B) (y : B) → before ≡ kept_of i → after ≡ before ++ y ∷ [] → y ≡ f x → p x ≡ true → after ≡ kept_of (i + 1)
    kept_one before after y so_far pushed is passes =
        pushed ∙ (λ j. so_far j ++ is j ∷ []) ∙ sym (more ∙ ap (λ b. kept_of i ++ list_map f (if b then x ∷ [] else [])) passes)

    pub kept_none : (before : List B) → before ≡ kept_of i → p x ≡ false → before ≡ kept_of (i + 1)
    kept_none before so_far fails = so_far ∙ sym (more ∙ ap (λ b. kept_of i ++ list_map f (if b then x ∷ [] else [])) fails ∙ append-nil (kept_of i))

-- as many values as entries
pub values_len : {X : Type 0} (m : map.FinMap text_cmp X) → map.len m ≡ length (map.values m)
values_len m = map.len-entries m ∙ sym (length-map (map.entries m) (λ e. e.1))
