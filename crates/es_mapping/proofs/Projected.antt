-- Some fields of a mapping are a mapping.
use Rattle.std.proofs.Common.{◌≡◌, ◌<◌, ◌≤◌, ℕ, List, [], ◌∷◌, ◌++◌, map, length, take, get_or, Bool, true, false, ◌&&◌, Some, if◌then◌else◌, refl, sym, ap, subst, ◌∙◌}
use Rattle.std.specs.List.{filter, list_all}
use Rattle.std.specs.Prelude.{All}
use Rattle.std.proofs.lemmas.Bool.{and_parts}
use Rattle.std.proofs.lemmas.List.Elements.{All-from_get_or, recursion_from_All, All-from_recursion}
use Rattle.std.specs.List.{AllByRecursion}
use Rattle.std.proofs.lemmas.List.{take_all}
use Rattle.es_tree.specs.declared.tree.Named.{Named}
use Rattle.es_tree.specs.Find.{value_named}
use Rattle.es_tree.specs.Rising.{name_of}
use Rattle.es_value.specs.declared.kinds.FieldType.{FieldType}
use Rattle.es_mapping.specs.Paths.{is_path, is_apart, are_apart, are_paths, comes_before, are_rising}
use Rattle.es_mapping.specs.Mappings.{is_mapping, IsWithin}
use Rattle.es_mapping.proofs.Pieces.{are_ordered, are_ordered-rising, are_rising-ordered}
use Rattle.es_mapping.proofs.Search.{value_named-at}

module _ (keeps : Named FieldType → Bool) where
  kept_one : (b : Bool) (p : List ℕ → Bool) (f : Named FieldType) (fs : List (Named FieldType)) → p f.name ≡ true → list_all p (map name_of (filter keeps fs)) ≡ true → list_all p (map name_of (if b then f ∷ filter keeps fs else filter keeps fs)) ≡ true
  kept_one true p f fs h all = rw (h, all)
  kept_one false p f fs h all = all

  all-kept : (p : List ℕ → Bool) (fs : List (Named FieldType)) → list_all p (map name_of fs) ≡ true → list_all p (map name_of (filter keeps fs)) ≡ true
  all-kept p [] h = refl
  all-kept p (f ∷ fs) h =
      let parts = and_parts (p f.name) (list_all p (map name_of fs)) h in
      kept_one (keeps f) p f fs parts.0 (all-kept p fs parts.1)

  apart_one : (b : Bool) (f : Named FieldType) (fs : List (Named FieldType)) → list_all (is_apart f.name) (map name_of (filter keeps fs)) ≡ true → are_apart (map name_of (filter keeps fs)) ≡ true → are_apart (map name_of (if b then f ∷ filter keeps fs else filter keeps fs)) ≡ true
  apart_one true f fs h all = rw (h, all)
  apart_one false f fs h all = all

  apart-kept : (fs : List (Named FieldType)) → are_apart (map name_of fs) ≡ true → are_apart (map name_of (filter keeps fs)) ≡ true
  apart-kept [] h = refl
  apart-kept (f ∷ fs) h =
      let parts = and_parts (list_all (is_apart f.name) (map name_of fs)) (are_apart (map name_of fs)) h in
      apart_one (keeps f) f fs (all-kept (is_apart f.name) fs parts.0) (apart-kept fs parts.1)

  ordered_one : (b : Bool) (f : Named FieldType) (fs : List (Named FieldType)) → list_all (comes_before f.name) (map name_of (filter keeps fs)) ≡ true → are_ordered (map name_of (filter keeps fs)) ≡ true → are_ordered (map name_of (if b then f ∷ filter keeps fs else filter keeps fs)) ≡ true
  ordered_one true f fs h all = rw (h, all)
  ordered_one false f fs h all = all

  ordered-kept : (fs : List (Named FieldType)) → are_ordered (map name_of fs) ≡ true → are_ordered (map name_of (filter keeps fs)) ≡ true
  ordered-kept [] h = refl
  ordered-kept (f ∷ fs) h =
      let parts = and_parts (list_all (comes_before f.name) (map name_of fs)) (are_ordered (map name_of fs)) h in
      ordered_one (keeps f) f fs (all-kept (comes_before f.name) fs parts.0) (ordered-kept fs parts.1)

  pub is_mapping-kept : (fs : List (Named FieldType)) → is_mapping fs ≡ true → is_mapping (filter keeps fs) ≡ true
  is_mapping-kept fs h =
      let parts = and_parts (are_paths (map name_of fs)) (are_rising (map name_of fs)) h in
      let paths = and_parts (list_all is_path (map name_of fs)) (are_apart (map name_of fs)) parts.0 in
      rw (all-kept is_path fs paths.0, apart-kept fs paths.1, are_rising-ordered (map name_of (filter keeps fs)) (ordered-kept fs (are_ordered-rising (map name_of fs) parts.1)))

  within_one : (b : Bool) (whole : List (Named FieldType)) (f : Named FieldType) (fs : List (Named FieldType)) → value_named f.name whole ≡ Some f.value → AllByRecursion (λ g. value_named g.name whole ≡ Some g.value) (filter keeps fs) → AllByRecursion (λ g. value_named g.name whole ≡ Some g.value) (if b then f ∷ filter keeps fs else filter keeps fs)
  within_one true whole f fs h all = (h, all)
  within_one false whole f fs h all = all

  within-kept : (whole fs : List (Named FieldType)) → AllByRecursion (λ g. value_named g.name whole ≡ Some g.value) fs → AllByRecursion (λ g. value_named g.name whole ≡ Some g.value) (filter keeps fs)
  within-kept whole [] h = tt
  within-kept whole (f ∷ fs) h = within_one (keeps f) whole f fs h.0 (within-kept whole fs h.1)

  itself : (fs : List (Named FieldType)) → are_rising (map name_of fs) ≡ true → IsWithin fs fs
  itself [] up = All-from_recursion (λ g. value_named g.name [] ≡ Some g.value) [] tt
  itself (f ∷ fs) up = All-from_get_or (λ g. value_named g.name (f ∷ fs) ≡ Some g.value) (f ∷ fs) f (λ i below. value_named-at (get_or (f ∷ fs) i f).name (f ∷ fs) (are_ordered-rising (map name_of (f ∷ fs)) up) i f below refl)

  pub IsWithin-kept : (fs : List (Named FieldType)) → is_mapping fs ≡ true → IsWithin (filter keeps fs) fs
  IsWithin-kept fs h =
      let up = (and_parts (are_paths (map name_of fs)) (are_rising (map name_of fs)) h).1 in
      All-from_recursion (λ g. value_named g.name fs ≡ Some g.value) (filter keeps fs) (within-kept fs fs (recursion_from_All (λ g. value_named g.name fs ≡ Some g.value) fs (itself fs up)))

  -- what a loop over all fields has kept at its end
  pub all_kept : (kept items whole : List (Named FieldType)) (i : ℕ) → kept ≡ filter keeps (take i items) → length items ≤ i → items ≡ whole → kept ≡ filter keeps whole
  all_kept kept items whole i e h is = e ∙ ap (filter keeps) (take_all i items h ∙ is)

  pub is_mapping-all_kept : (kept items whole : List (Named FieldType)) (i : ℕ) → kept ≡ filter keeps (take i items) → length items ≤ i → items ≡ whole → is_mapping whole ≡ true → is_mapping kept ≡ true
  is_mapping-all_kept kept items whole i e h is good = ap is_mapping (all_kept kept items whole i e h is) ∙ is_mapping-kept whole good

  pub IsWithin-all_kept : (result kept items whole seen : List (Named FieldType)) (i : ℕ) → result ≡ kept → kept ≡ filter keeps (take i items) → length items ≤ i → items ≡ whole → whole ≡ seen → is_mapping whole ≡ true → IsWithin result seen
  IsWithin-all_kept result kept items whole seen i r e h is view good =
      subst (λ (l : List (Named FieldType)). IsWithin result l) view
      (subst (λ (l : List (Named FieldType)). IsWithin l whole) (sym (r ∙ all_kept kept items whole i e h is)) (IsWithin-kept whole good))

-- each field of a mapping is found at its path
pub IsWithin-itself : (fs : List (Named FieldType)) → is_mapping fs ≡ true → IsWithin fs fs
IsWithin-itself fs h = itself (λ _. true) fs (and_parts (are_paths (map name_of fs)) (are_rising (map name_of fs)) h).1
