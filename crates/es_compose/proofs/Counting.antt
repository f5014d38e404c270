-- An action is granted exactly where a member counts.
use Rattle.std.proofs.Common.{◌≡◌, ℕ, Bool, true, false, ◌||◌, List, [], ◌∷◌, cond, filter, refl, sym, ap, ◌∙◌}
use Rattle.std.specs.List.{list_any, flat_map}
use Rattle.std.proofs.lemmas.List.Folds.{list_any-append}
use Rattle.es_grammar.specs.Values.{has_some}
use Rattle.es_priv.specs.declared.kinds.Action.{Action}
use Rattle.es_role.specs.declared.kinds.Descriptor.{Descriptor}
use Rattle.es_compose.specs.Roles.{counts, role_grants, counting}

module _ {B : Type 0} (p : B → Bool) where
  any_then : (b : Bool) (x : B) (any : Bool) (kept : List B) → any ≡ has_some kept → (b || any) ≡ has_some (cond b (x ∷ kept) kept)
  any_then true x any kept e = refl
  any_then false x any kept e = e

  any_filter : (xs : List B) → list_any p xs ≡ has_some (filter p xs)
  any_filter [] = refl
  any_filter (x ∷ xs) = any_then (p x) x (list_any p xs) (filter p xs) (any_filter xs)

module _ {A B : Type 0} (p : B → Bool) (f : A → List B) where
  any_within : (xs : List A) → list_any (λ (x : A). list_any p (f x)) xs ≡ list_any p (flat_map f xs)
  any_within [] = refl
  any_within (x ∷ xs) = ap (λ (b : Bool). list_any p (f x) || b) (any_within xs) ∙ sym (list_any-append p (f x) (flat_map f xs))

pub grants_by_counting : (descriptors : List Descriptor) (action : Action) (index : List ℕ) → role_grants descriptors action index ≡ has_some (counting descriptors action index)
unfolding role_grants
grants_by_counting descriptors action index =
    any_within (counts action index) (λ (d : Descriptor). d.indices) descriptors
    ∙ any_filter (counts action index) (flat_map (λ (d : Descriptor). d.indices) descriptors)
