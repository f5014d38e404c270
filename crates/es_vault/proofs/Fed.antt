-- What a key feeds a hasher.
use Rattle.std.proofs.Common.{◌≡◌, ℕ, ◌+◌, ◌<◌, ◌≤◌, List, [], ◌∷◌, ◌++◌, length, take, get_or, refl, sym, ap, ◌∙◌, subst}
use Rattle.std.specs.Prelude.{slice_index_or}
use Rattle.std.specs.List.{flat_map, fold}
use Rattle.std.specs.Hash as fed
use Rattle.std.proofs.lemmas.List.{take_more, take_all}
use Rattle.std.proofs.lemmas.Grind.{flat_map-append, fold-append}
use Rattle.es_keys.specs.declared.kinds.RoleKey.{RoleKey}
use Rattle.es_keys.specs.declared.kinds.RoleKey.TheVariants.{Names}
use Rattle.es_vault.specs.Keys.{fed_key}

module _ {S : Type 0} (write : S → List ℕ → S) (begun : S) where
  pub fed_more : (state after : S) (names : List (List ℕ)) (i : ℕ) (name text : List ℕ) → i < length names → name ≡ slice_index_or names i name → text ≡ name
      → state ≡ fold write begun (flat_map fed.str (take i names)) → after ≡ write (write state text) (255 ∷ []) → after ≡ fold write begun (flat_map fed.str (take (i + 1) names))
  fed_more state after names i name text within is same before was =
      was
      ∙ ap (λ t. write (write state t) (255 ∷ [])) (same ∙ is)
      ∙ ap (λ s. fold write s (fed.str (get_or names i name))) before
      ∙ sym (fold-append write begun (flat_map fed.str (take i names)) (fed.str (get_or names i name)))
      ∙ ap (λ l. fold write begun (flat_map fed.str (take i names) ++ l)) (sym (flat_one (get_or names i name)))
      ∙ ap (fold write begun) (sym (flat_map-append fed.str (take i names) (get_or names i name ∷ [])))
      ∙ ap (λ l. fold write begun (flat_map fed.str l)) (sym (take_more names i name within))
    where
      flat_one : (x : List ℕ) → flat_map fed.str (x ∷ []) ≡ fed.str x
      flat_one x = refl

  pub fed_all : (state : S) (items : List (List ℕ)) (i : ℕ) (names : List (List ℕ)) (key : RoleKey) → length items ≤ i → items ≡ names → key ≡ Names names
      → state ≡ fold write begun (flat_map fed.str (take i items)) → state ≡ fold write begun (fed_key key)
  fed_all state items i names key all same is was =
      was ∙ ap (λ l. fold write begun (flat_map fed.str l)) (take_all i items all ∙ same) ∙ ap (λ k. fold write begun (fed_key k)) (sym is)
