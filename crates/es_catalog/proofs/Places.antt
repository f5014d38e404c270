-- What a walk over the entries has found, one place further.
use Rattle.std.proofs.Common.{◌≡◌, ℕ, ◌+◌, ◌<◌, ◌≤◌, zero, suc, List, [], ◌∷◌, ◌++◌, map as list_map, length, take, get_or, slice_get, Bool, true, false, ◌||◌, ◌==◌, if◌then◌else◌, Option, Some, None, option_map, refl, sym, ap, ◌∙◌, arith, ⊎_elim, append-nil}
use Rattle.std.specs.List.{filter, list_any}
use Rattle.std.specs.Map.{keys_of, values_of}
use Rattle.std.specs.FinMap as map
use Rattle.std.proofs.lemmas.Bool.{eq-eqb}
use Rattle.std.proofs.lemmas.Bool.Decides.{eqb_tells}
use Rattle.std.specs.Option.{unwrap_or}
use Rattle.std.proofs.lemmas.List.{take_more, take_all, length-map}
use Rattle.std.proofs.lemmas.List.Elements.{filter-append}
use Rattle.std.proofs.lemmas.List.Folds.{list_any-append, list_any_at}
use Rattle.std.proofs.lemmas.Option.{slice_get_within, unwrap_or-slice_get}
use Rattle.es_glob.specs.Patterns.{fits}
use Rattle.es_map.specs.Entries.{IsRising}
use Rattle.es_catalog.specs.Catalog.{IndexValue, CatalogValue, fitting, stands}
use Rattle.es_map.specs.Views.{map_of}
use Rattle.es_map.proofs.Kept.{keys_kept, values_kept}

taken : {Y : Type 0} (xs : List Y) (i : ℕ) (x : Y) → slice_get xs i ≡ Some x → take (i + 1) xs ≡ take i xs ++ x ∷ []
taken xs i x h = take_more xs i x (slice_get_within xs i x h) ∙ ap (λ y. take i xs ++ y ∷ []) (sym (unwrap_or-slice_get xs i x) ∙ ap (λ o. unwrap_or o x) h)

module _ {E Y : Type 0} (f : E → Y) where
  image_at : (es : List E) (i : ℕ) (e : E) → slice_get es i ≡ Some e → slice_get (list_map f es) i ≡ Some (f e)
  image_at [] i e h = absurd (cc)
  image_at (a ∷ es) zero e h = let same : a ≡ e = cc in ap (λ x. Some (f x)) same
  image_at (a ∷ es) (suc i) e h = image_at es i e h

  module _ (p : Y → Bool) (es : List E) (i : ℕ) (e : E) (h : slice_get es i ≡ Some e) where
    pub filter_more : filter p (take (i + 1) (list_map f es)) ≡ filter p (take i (list_map f es)) ++ filter p (f e ∷ [])
    filter_more = ap (filter p) (taken (list_map f es) i (f e) (image_at es i e h)) ∙ filter-append p (take i (list_map f es)) (f e ∷ [])

    pub any_more : list_any p (take (i + 1) (list_map f es)) ≡ (list_any p (take i (list_map f es)) || list_any p (f e ∷ []))
    any_more = ap (list_any p) (taken (list_map f es) i (f e) (image_at es i e h)) ∙ list_any-append p (take i (list_map f es)) (f e ∷ [])

    -- one of them settles the answer
    pub any_here : p (f e) ≡ true → list_any p (list_map f es) ≡ true
    any_here is =
        let at = image_at es i e h in
        let read : get_or (list_map f es) i (f e) ≡ f e = sym (unwrap_or-slice_get (list_map f es) i (f e)) ∙ ap (λ o. unwrap_or o (f e)) at in
        list_any_at p (list_map f es) i (f e) (slice_get_within (list_map f es) i (f e) at) (ap p read ∙ is)

-- ---- the walks over a catalog's indices
nothing_there : {E : Type 0} (es : List E) (i : ℕ) → None ≡ slice_get es i → i < length es → ⊥
nothing_there [] i e h = omega arith
nothing_there (a ∷ es) zero e h = cc
nothing_there (a ∷ es) (suc i) e h = nothing_there es i e (omega arith)

-- an entry stands at each place below their number
pub stands_there : {E B : Type 0} (f : B → E) (es : List E) (i n : ℕ) (o : Option B) → option_map f o ≡ slice_get es i → n ≡ length es → i < n → ((b : B) → o ≡ Some b → ⊥) → ⊥
stands_there f es i n None told is below none = nothing_there es i told (omega arith)
stands_there f es i n (Some b) told is below none = none b refl

test_apart : (a b : ℕ) → (a ≡ b → ⊥) → (a == b) ≡ false
test_apart a b apart = ⊎_elim (λ h. absurd (apart h.1)) (λ h. h.0) (eqb_tells a b)

module _ (es : List (List ℕ × IndexValue)) (rising : IsRising es) (seen : CatalogValue) (view : map_of es ≡ seen) where
  keys_seen : map.keys seen ≡ keys_of es
  keys_seen = ap (λ (m : CatalogValue). map.keys m) (sym view) ∙ keys_kept es rising

  values_seen : map.values seen ≡ values_of es
  values_seen = ap (λ (m : CatalogValue). map.values m) (sym view) ∙ values_kept es rising

  module _ (pattern : List ℕ) where
    abbrev pub fit_so_far : ℕ → List (List ℕ)
    fit_so_far i = filter (fits pattern) (take i (keys_of es))

    pub fitting_all : (names : List (List ℕ)) (i n : ℕ) → names ≡ fit_so_far i → n ≡ length es → n ≤ i → names ≡ fitting seen pattern
    fitting_all names i n so_far is past = so_far ∙ ap (filter (fits pattern)) (take_all i (keys_of es) (omega (arith, length-map es (λ (e : List ℕ × IndexValue). e.0))) ∙ sym keys_seen)

    module _ (i : ℕ) (e : List ℕ × IndexValue) (at : Some e ≡ slice_get es i) where
      pub fit_one : (before after : List (List ℕ)) (copy : List ℕ) → before ≡ fit_so_far i → after ≡ before ++ copy ∷ [] → copy ≡ e.0 → fits pattern e.0 ≡ true → after ≡ fit_so_far (i + 1)
      fit_one before after copy so_far more same fit = more ∙ (λ j. so_far j ++ same j ∷ []) ∙ sym (filter_more (λ f. f.0) (fits pattern) es i e (sym at) ∙ ap (λ b. fit_so_far i ++ (if b then e.0 ∷ [] else [])) fit)

      pub fit_none : (before : List (List ℕ)) → before ≡ fit_so_far i → fits pattern e.0 ≡ false → before ≡ fit_so_far (i + 1)
      fit_none before so_far fit = so_far ∙ sym (filter_more (λ f. f.0) (fits pattern) es i e (sym at) ∙ ap (λ b. fit_so_far i ++ (if b then e.0 ∷ [] else [])) fit ∙ append-nil (fit_so_far i))

  module _ (incarnation : ℕ) where
    abbrev is_of : IndexValue → Bool
    is_of index = index.incarnation == incarnation

    pub stands_none : (i n : ℕ) → list_any is_of (take i (values_of es)) ≡ false → n ≡ length es → n ≤ i → false ≡ stands seen incarnation
    stands_none i n none is past = sym (ap (list_any is_of) (values_seen ∙ sym (take_all i (values_of es) (omega (arith, length-map es (λ (e : List ℕ × IndexValue). e.1))))) ∙ none)

    module _ (i : ℕ) (e : List ℕ × IndexValue) (at : Some e ≡ slice_get es i) (found : ℕ) (told : found ≡ e.1.incarnation) where
      pub stands_here : found ≡ incarnation → true ≡ stands seen incarnation
      stands_here is = sym (ap (list_any is_of) values_seen ∙ any_here (λ f. f.1) is_of es i e (sym at) (eq-eqb e.1.incarnation incarnation (sym told ∙ is)))

      pub stands_not_here : (found ≡ incarnation → ⊥) → list_any is_of (take i (values_of es)) ≡ false → list_any is_of (take (i + 1) (values_of es)) ≡ false
      stands_not_here apart none =
          any_more (λ f. f.1) is_of es i e (sym at) ∙ ap (λ b. b || list_any is_of (e.1 ∷ [])) none ∙ ap (λ b. b || false) (test_apart e.1.incarnation incarnation (λ same. apart (told ∙ same)))
