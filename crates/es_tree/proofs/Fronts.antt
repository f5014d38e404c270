-- What was found in front of what is left.
use Rattle.std.proofs.Common.{◌≡◌, ℕ, List, [], ◌∷◌, ◌++◌, map, Bool, true, Option, Some, None, option_map, String, Global, string_bytes, string_cmp, nat_cmp, Less, refl, sym, ap, ◌∙◌, append_assoc}
use Rattle.std.specs.List.{AllByRecursion, list_all}
use Rattle.std.specs.List.Sorted.{IsStrictlySortedBy}
use Rattle.std.specs.Map.{keys_of}
use Rattle.std.specs.Ordering.{is_lt}
use Rattle.std.specs.Cmp.Lexicographic.{slice_cmp}
use Rattle.std.proofs.lemmas.List.Folds.{list_all-append}
use Rattle.std.proofs.lemmas.Option.{option_and_then_some}
use Rattle.serde_json.specs.View.{view, members_view}
use Rattle.serde_json.specs.declared.value.Value.{Value}
use Rattle.es_tree.specs.declared.tree.Tree.{Tree}
use Rattle.es_tree.specs.declared.tree.Named.{Named}
use Rattle.es_tree.specs.Rising.{name_of, is_rising}
use Rattle.es_tree.specs.Read.{tree_of, members_of}

pub some_same : {A : Type 0} {x y : A} → Some x ≡ Some y → x ≡ y
some_same e = cc

pub option_map_some : {A B P : Type 0} (f : A → B) (o : Option A) (y : B) → option_map f o ≡ Some y → ((x : A) → o ≡ Some x → f x ≡ y → P) → P
option_map_some f None y e k = absurd (cc)
option_map_some f (Some x) y e k = k x refl (some_same e)

abbrev pub with_front : {A : Type 0} → List A → Option (List A) → Option (List A)
with_front front o = option_map (λ rest. front ++ rest) o

pub with_front-nil : {A : Type 0} (o : Option (List A)) → with_front [] o ≡ o
with_front-nil None = refl
with_front-nil (Some xs) = refl

-- an item more
pub with_front-push : {A : Type 0} (front : List A) (x : A) (o : Option (List A)) → with_front front (option_map (λ rest. x ∷ rest) o) ≡ with_front (front ++ x ∷ []) o
with_front-push front x None = refl
with_front-push front x (Some xs) = ap Some (sym (append_assoc front (x ∷ []) xs))

pub all_push : {A : Type 0} (p : A → Bool) (xs : List A) (x : A) (ys : List A) → ys ≡ xs ++ x ∷ [] → list_all p xs ≡ true → p x ≡ true → list_all p ys ≡ true
all_push p xs x ys e h k = ap (list_all p) e ∙ list_all-append p xs (x ∷ []) ∙ rw (h, k)

-- ---- names in order

abbrev pub Entry : Type 0
Entry = String Global × Value

abbrev pub texts_of : List Entry → List (List ℕ)
texts_of es = map (λ e. string_bytes e.0) es

pub names-members_of : (es : List Entry) (ms : List (Named Tree)) → members_of (members_view es) ≡ Some ms → map name_of ms ≡ texts_of es
names-members_of [] ms e = ap (map name_of) (sym (some_same e))
names-members_of (x ∷ es) ms e =
    option_and_then_some _ (tree_of (view x.1)) ms e (λ t first rest.
    option_map_some _ (members_of (members_view es)) ms rest (λ more later is.
    ap (map name_of) (sym is) ∙ ap (λ l. string_bytes x.0 ∷ l) (names-members_of es more later)))

below_all : (x : List ℕ) (ks : List (String Global)) → AllByRecursion (λ y. slice_cmp nat_cmp x (string_bytes y) ≡ Less) ks → list_all (λ y. is_lt (slice_cmp nat_cmp x y)) (map string_bytes ks) ≡ true
below_all x [] h = refl
below_all x (k ∷ ks) h = rw (h.0, below_all x ks h.1)

rising_keys : (ks : List (String Global)) → IsStrictlySortedBy string_cmp ks → is_rising (map string_bytes ks) ≡ true
unfolding IsStrictlySortedBy
rising_keys [] h = refl
rising_keys (k ∷ ks) h = rw (below_all (string_bytes k) ks h.0, rising_keys ks h.1)

texts_of-keys : (es : List Entry) → map string_bytes (keys_of es) ≡ texts_of es
texts_of-keys [] = refl
texts_of-keys (e ∷ es) = ap (λ l. string_bytes e.0 ∷ l) (texts_of-keys es)

pub rising-members_of : (es : List Entry) (ms : List (Named Tree)) → IsStrictlySortedBy string_cmp (keys_of es) → members_of (members_view es) ≡ Some ms → is_rising (map name_of ms) ≡ true
rising-members_of es ms sorted e = ap is_rising (names-members_of es ms e ∙ sym (texts_of-keys es)) ∙ rising_keys (keys_of es) sorted
