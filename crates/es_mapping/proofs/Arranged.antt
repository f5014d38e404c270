-- Fields that are sorted by their paths.
use Rattle.std.proofs.Common.{◌≡◌, ◌<◌, ℕ, suc, List, [], ◌∷◌, ◌++◌, map, length, get_or, Bool, true, false, ◌&&◌, not, nat_eq, ◌⊎◌, inl, inr, if◌then◌else◌, codes, refl, sym, ap, ap₂, ◌∙◌, add-one, arith}
use Rattle.std.specs.List.{list_all, starts_with, AllByRecursion, IsDistinct}
use Rattle.std.specs.List.Sorted.{IsPermutation, IsSortedBy}
use Rattle.std.specs.Ordering.{is_lt}
use Rattle.std.specs.Str.{bytes_eq}
use Rattle.std.proofs.lemmas.Bool.{and_parts, false≢true}
use Rattle.std.proofs.lemmas.Cmp.{nat_list_eq_equiv}
use Rattle.std.proofs.lemmas.List.Elements.{recursion_from_All, All-from_recursion}
use Rattle.std.proofs.lemmas.List.Folds.{list_all-map}
use Rattle.std.proofs.lemmas.List.MinMax.{ranks_by}
use Rattle.std.proofs.lemmas.List.Sorted.{All-permutation, IsPermutation-refl, IsPermutation-cons, IsPermutation-trans, IsPermutation-sym, IsPermutation-map, IsPermutation-middle, sorted_far}
use Rattle.std.proofs.lemmas.Map.Keys.{IsDistinct-IsPermutation}
use Rattle.es_tree.specs.declared.tree.Named.{Named}
use Rattle.es_tree.specs.declared.fault.BodyFault.{BodyFault}
use Rattle.es_tree.specs.declared.fault.BodyFault.TheVariants.{Bad}
use Rattle.es_grammar.specs.Reading.{Fails}
use Rattle.es_tree.specs.Rising.{name_of}
use Rattle.es_value.specs.declared.kinds.FieldType.{FieldType}
use Rattle.es_mapping.specs.Paths.{is_path, is_apart, are_apart, are_paths, path_cmp, comes_before}
use Rattle.es_mapping.specs.Mappings.{with_field, in_order, is_mapping}
use Rattle.es_mapping.specs.Below.{neighbours_apart, arranged}
use Rattle.es_mapping.proofs.Pieces.{path_total, before_all, not_back, itself, after, are_ordered, are_rising-ordered}
use Rattle.es_mapping.proofs.Apart.{Up, neighbours_apart-Up}

-- ---- what a sort gives

not_before : (x : List ℕ) (ms : List (Named FieldType)) (d : Named FieldType) → ((k : ℕ) → k < length ms → comes_before (get_or ms k d).name x ≡ false) → AllByRecursion (λ y. comes_before y x ≡ false) (map name_of ms)
not_before x [] d h = tt
not_before x (m ∷ ms) d h = (h 0 (omega arith), not_before x ms d (λ k below. h (suc k) (omega arith)))

pub up_of_sorted : (ms : List (Named FieldType)) → IsSortedBy (λ a b. is_lt (path_cmp a.name b.name)) ms → Up (map name_of ms)
up_of_sorted [] sorted = tt
up_of_sorted (m ∷ ms) sorted =
    let tail : IsSortedBy (λ a b. is_lt (path_cmp a.name b.name)) ms = λ k d p q. rw add-one (rw add-one at (sorted (suc k) d (omega arith) (omega arith))) in (
      not_before m.name ms m (λ k below. sorted_far (λ a b. is_lt (path_cmp a.name b.name)) (ranks_by path_total (λ f. f.name)) (m ∷ ms) sorted 0 (suc k) m (omega arith) (omega arith)),
      up_of_sorted ms tail,
    )

-- ---- paths in another order

same_truth : (a b : Bool) → (a ≡ true → b ≡ true) → (b ≡ true → a ≡ true) → a ≡ b
same_truth true b f g = sym (f refl)
same_truth false true f g = g refl
same_truth false false f g = refl

all_of : {A : Type 0} (p : A → Bool) (xs : List A) → list_all p xs ≡ true → AllByRecursion (λ x. p x ≡ true) xs
all_of p [] h = tt
all_of p (x ∷ xs) h = let parts = and_parts (p x) (list_all p xs) h in (parts.0, all_of p xs parts.1)

of_all : {A : Type 0} (p : A → Bool) (xs : List A) → AllByRecursion (λ x. p x ≡ true) xs → list_all p xs ≡ true
of_all p [] h = refl
of_all p (x ∷ xs) h = rw (h.0, of_all p xs h.1)

all_moved : {A : Type 0} (p : A → Bool) (xs ys : List A) → IsPermutation xs ys → list_all p xs ≡ true → list_all p ys ≡ true
all_moved p xs ys moved h = of_all p ys (recursion_from_All (λ x. p x ≡ true) ys (All-permutation (λ x. p x ≡ true) xs ys moved (All-from_recursion (λ x. p x ≡ true) xs (all_of p xs h))))

clashes : List ℕ → List ℕ → Bool
clashes x y = not (is_apart x y)

swapped : (a b c : Bool) → (a && (b && c)) ≡ (a && (c && b))
swapped true true true = refl
swapped true true false = refl
swapped true false true = refl
swapped true false false = refl
swapped false b c = refl

is_apart-symm : (x y : List ℕ) → is_apart x y ≡ is_apart y x
is_apart-symm x y = ap (λ b. not b && (not (starts_with nat_eq y (x ++ codes ".")) && not (starts_with nat_eq x (y ++ codes ".")))) (nat_list_eq_equiv.symm x y) ∙ swapped (not (bytes_eq y x)) (not (starts_with nat_eq y (x ++ codes "."))) (not (starts_with nat_eq x (y ++ codes ".")))

clashes-symm : (x y : List ℕ) → clashes x y ≡ clashes y x
unfolding clashes
clashes-symm x y = ap not (is_apart-symm x y)

unless_not : (b : Bool) → b ≡ true → not b ≡ false
unless_not true h = refl
unless_not false h = absurd (false≢true h)

not_unless : (b : Bool) → not b ≡ false → b ≡ true
not_unless true h = refl
not_unless false h = absurd (false≢true (sym h))

no_clash : (x : List ℕ) (ys : List (List ℕ)) → list_all (is_apart x) ys ≡ true → AllByRecursion (λ y. clashes x y ≡ false) ys
unfolding clashes
no_clash x [] h = tt
no_clash x (y ∷ ys) h = let parts = and_parts (is_apart x y) (list_all (is_apart x) ys) h in (unless_not _ parts.0, no_clash x ys parts.1)

apart_all : (x : List ℕ) (ys : List (List ℕ)) → AllByRecursion (λ y. clashes x y ≡ false) ys → list_all (is_apart x) ys ≡ true
unfolding clashes
apart_all x [] h = refl
apart_all x (y ∷ ys) h = rw (not_unless (is_apart x y) h.0, apart_all x ys h.1)

distinct_of : (xs : List (List ℕ)) → are_apart xs ≡ true → IsDistinct clashes xs
unfolding IsDistinct
distinct_of [] h = tt
distinct_of (x ∷ xs) h = let parts = and_parts (list_all (is_apart x) xs) (are_apart xs) h in (no_clash x xs parts.0, distinct_of xs parts.1)

of_distinct : (xs : List (List ℕ)) → IsDistinct clashes xs → are_apart xs ≡ true
unfolding IsDistinct
of_distinct [] h = refl
of_distinct (x ∷ xs) h = rw (apart_all x xs h.0, of_distinct xs h.1)

paths_moved : (xs ys : List (List ℕ)) → IsPermutation xs ys → are_paths xs ≡ true → are_paths ys ≡ true
paths_moved xs ys moved h =
    let parts = and_parts (list_all is_path xs) (are_apart xs) h in
    rw (all_moved is_path xs ys moved parts.0, of_distinct ys (IsDistinct-IsPermutation clashes clashes-symm xs ys moved (distinct_of xs parts.1)))

pub are_paths-moved : (xs ys : List (Named FieldType)) → IsPermutation xs ys → are_paths (map name_of xs) ≡ are_paths (map name_of ys)
are_paths-moved xs ys moved =
    let names = IsPermutation-map name_of xs ys moved in
    same_truth _ _ (paths_moved _ _ names) (paths_moved _ _ (IsPermutation-sym _ _ names))

-- ---- strict order

apart_differ : (x y : List ℕ) → is_apart x y ≡ true → bytes_eq x y ≡ false
apart_differ x y h = by (bytes_eq x y) (and_parts (not (bytes_eq x y)) _ h).0
  where
    by : (b : Bool) → not b ≡ true → b ≡ false
    by true h = sym h
    by false h = refl

rises_from : (x : List ℕ) (ys : List (List ℕ)) → AllByRecursion (λ y. comes_before y x ≡ false) ys → list_all (is_apart x) ys ≡ true → list_all (comes_before x) ys ≡ true
rises_from x [] up apart = refl
rises_from x (y ∷ ys) up apart =
    let parts = and_parts (is_apart x y) (list_all (is_apart x) ys) apart in
    rw (after y x (nat_list_eq_equiv.symm y x ∙ apart_differ x y parts.0) up.0, rises_from x ys up.1 parts.1)

pub are_ordered-Up : (xs : List (List ℕ)) → Up xs → are_apart xs ≡ true → are_ordered xs ≡ true
are_ordered-Up [] up apart = refl
are_ordered-Up (x ∷ xs) up apart =
    let parts = and_parts (list_all (is_apart x) xs) (are_apart xs) apart in
    rw (rises_from x xs up.0 parts.0, are_ordered-Up xs up.1 parts.1)

-- ---- fields at their places

placed_moved : (b : Bool) (f g : Named FieldType) (gs hs : List (Named FieldType)) → IsPermutation (f ∷ gs) hs → IsPermutation (f ∷ g ∷ gs) (if b then f ∷ g ∷ gs else g ∷ hs)
placed_moved true f g gs hs more = IsPermutation-refl _
placed_moved false f g gs hs more = IsPermutation-trans _ _ _ (IsPermutation-middle (f ∷ []) g gs) (IsPermutation-cons g _ _ more)

with_field-moved : (f : Named FieldType) (gs : List (Named FieldType)) → IsPermutation (f ∷ gs) (with_field f gs)
with_field-moved f [] = IsPermutation-refl _
with_field-moved f (g ∷ gs) = placed_moved (comes_before f.name g.name) f g gs (with_field f gs) (with_field-moved f gs)

pub in_order-moved : (fs : List (Named FieldType)) → IsPermutation fs (in_order fs)
in_order-moved [] = IsPermutation-refl []
in_order-moved (f ∷ fs) = IsPermutation-trans _ _ _ (IsPermutation-cons f _ _ (in_order-moved fs)) (with_field-moved f (in_order fs))

all_before : (x y : List ℕ) (ys : List (List ℕ)) → comes_before x y ≡ true → list_all (comes_before y) ys ≡ true → list_all (comes_before x) (y ∷ ys) ≡ true
all_before x y [] h all = rw h
all_before x y (z ∷ zs) h all =
    let parts = and_parts (comes_before y z) (list_all (comes_before y) zs) all in
    let here = before_all x y z h parts.0 in
    let rest = and_parts (comes_before x y) (list_all (comes_before x) zs) (all_before x y zs h parts.1) in
    rw (h, here, rest.1)

all_placed : (b : Bool) (x : List ℕ) (f g : Named FieldType) (gs : List (Named FieldType)) → comes_before x f.name ≡ true → comes_before x g.name ≡ true → list_all (comes_before x) (map name_of gs) ≡ true → list_all (comes_before x) (map name_of (with_field f gs)) ≡ true
    → list_all (comes_before x) (map name_of (if b then f ∷ g ∷ gs else g ∷ with_field f gs)) ≡ true
all_placed true x f g gs hf hg all more = rw (hf, hg, all)
all_placed false x f g gs hf hg all more = rw (hg, more)

all-with_field : (x : List ℕ) (f : Named FieldType) (gs : List (Named FieldType)) → comes_before x f.name ≡ true → list_all (comes_before x) (map name_of gs) ≡ true → list_all (comes_before x) (map name_of (with_field f gs)) ≡ true
all-with_field x f [] h all = rw h
all-with_field x f (g ∷ gs) h all =
    let parts = and_parts (comes_before x g.name) (list_all (comes_before x) (map name_of gs)) all in
    all_placed (comes_before f.name g.name) x f g gs h parts.0 parts.1 (all-with_field x f gs h parts.1)

ordered_placed : (b : Bool) (f g : Named FieldType) (gs : List (Named FieldType)) → comes_before f.name g.name ≡ b → bytes_eq f.name g.name ≡ false → are_ordered (map name_of (g ∷ gs)) ≡ true → are_ordered (map name_of (with_field f gs)) ≡ true
    → are_ordered (map name_of (if b then f ∷ g ∷ gs else g ∷ with_field f gs)) ≡ true
ordered_placed true f g gs e n up more =
    let parts = and_parts (list_all (comes_before g.name) (map name_of gs)) (are_ordered (map name_of gs)) up in
    let all = and_parts (comes_before f.name g.name) (list_all (comes_before f.name) (map name_of gs)) (all_before f.name g.name (map name_of gs) e parts.0) in
    rw (e, all.1, parts.0, parts.1)
ordered_placed false f g gs e n up more =
    let parts = and_parts (list_all (comes_before g.name) (map name_of gs)) (are_ordered (map name_of gs)) up in
    rw (all-with_field g.name f gs (after f.name g.name n e) parts.0, more)

ordered-with_field : (f : Named FieldType) (gs : List (Named FieldType)) → list_all (is_apart f.name) (map name_of gs) ≡ true → are_ordered (map name_of gs) ≡ true → are_ordered (map name_of (with_field f gs)) ≡ true
ordered-with_field f [] apart up = refl
ordered-with_field f (g ∷ gs) apart up =
    let parts = and_parts (is_apart f.name g.name) (list_all (is_apart f.name) (map name_of gs)) apart in
    let ups = and_parts (list_all (comes_before g.name) (map name_of gs)) (are_ordered (map name_of gs)) up in
    ordered_placed (comes_before f.name g.name) f g gs refl (apart_differ f.name g.name parts.0) up (ordered-with_field f gs parts.1 ups.1)

pub in_order-ordered : (fs : List (Named FieldType)) → are_apart (map name_of fs) ≡ true → are_ordered (map name_of (in_order fs)) ≡ true
in_order-ordered [] apart = refl
in_order-ordered (f ∷ fs) apart =
    let parts = and_parts (list_all (is_apart f.name) (map name_of fs)) (are_apart (map name_of fs)) apart in
    ordered-with_field f (in_order fs) (all_moved (is_apart f.name) _ _ (IsPermutation-map name_of fs (in_order fs) (in_order-moved fs)) parts.0) (in_order-ordered fs parts.1)

-- ---- one order

abbrev In : Named FieldType → List (Named FieldType) → Type 0
In f [] = ⊥
In f (g ∷ gs) = (f ≡ g) ⊎ In f gs

weaker : (g : Named FieldType) (gs fs : List (Named FieldType)) → AllByRecursion (λ f. In f gs) fs → AllByRecursion (λ f. In f (g ∷ gs)) fs
weaker g gs [] h = tt
weaker g gs (f ∷ fs) h = (inr h.0, weaker g gs fs h.1)

all_in : (fs : List (Named FieldType)) → AllByRecursion (λ f. In f fs) fs
all_in [] = tt
all_in (f ∷ fs) = (inl refl, weaker f fs fs (all_in fs))

in_moved : (fs gs : List (Named FieldType)) → IsPermutation fs gs → AllByRecursion (λ f. In f gs) fs
in_moved fs gs moved = recursion_from_All (λ f. In f gs) fs (All-permutation (λ f. In f gs) gs fs (IsPermutation-sym fs gs moved) (All-from_recursion (λ f. In f gs) gs (all_in gs)))

in_before : (x : List ℕ) (f : Named FieldType) (gs : List (Named FieldType)) → list_all (comes_before x) (map name_of gs) ≡ true → In f gs → comes_before x f.name ≡ true
in_before x f [] all h = absurd h
in_before x f (g ∷ gs) all h =
    let parts = and_parts (comes_before x g.name) (list_all (comes_before x) (map name_of gs)) all in
    elim h as (λ _. comes_before x f.name ≡ true) [ inl e ↦ ap (λ n. comes_before x n.name) e ∙ parts.0 | inr more ↦ in_before x f gs parts.1 more ]

not_first : (g : Named FieldType) (gs fs : List (Named FieldType)) → list_all (comes_before g.name) (map name_of fs) ≡ true → AllByRecursion (λ f. In f (g ∷ gs)) fs → AllByRecursion (λ f. In f gs) fs
not_first g gs [] all h = tt
not_first g gs (f ∷ fs) all h =
    let parts = and_parts (comes_before g.name f.name) (list_all (comes_before g.name) (map name_of fs)) all in (
      elim h.0 as (λ _. In f gs) [ inl e ↦ absurd (false≢true (sym (itself g.name) ∙ ap (λ n. comes_before g.name n.name) (sym e) ∙ parts.0)) | inr more ↦ more ],
      not_first g gs fs parts.1 h.1,
    )

same_first : (f g : Named FieldType) (fs gs : List (Named FieldType)) → list_all (comes_before f.name) (map name_of fs) ≡ true → list_all (comes_before g.name) (map name_of gs) ≡ true → In f (g ∷ gs) → In g (f ∷ fs) → f ≡ g
same_first f g fs gs all_f all_g hf hg =
    elim hf as (λ _. f ≡ g) [
      | inl e ↦ e
      | inr more ↦ elim hg as (λ _. f ≡ g) [
        | inl e ↦ sym e
        | inr back ↦ absurd (false≢true (sym (not_back g.name f.name (in_before g.name f gs all_g more)) ∙ in_before f.name g fs all_f back))
      ]
    ]

one_order : (fs gs : List (Named FieldType)) → are_ordered (map name_of fs) ≡ true → are_ordered (map name_of gs) ≡ true → AllByRecursion (λ f. In f gs) fs → AllByRecursion (λ g. In g fs) gs → fs ≡ gs
one_order [] [] uf ug h k = refl
one_order [] (g ∷ gs) uf ug h k = absurd k.0
one_order (f ∷ fs) [] uf ug h k = absurd h.0
one_order (f ∷ fs) (g ∷ gs) uf ug h k =
    let pf = and_parts (list_all (comes_before f.name) (map name_of fs)) (are_ordered (map name_of fs)) uf in
    let pg = and_parts (list_all (comes_before g.name) (map name_of gs)) (are_ordered (map name_of gs)) ug in
    let same : f ≡ g = same_first f g fs gs pf.0 pg.0 h.0 k.0 in
    let rest : fs ≡ gs = one_order fs gs pf.1 pg.1
    (not_first g gs fs (ap (λ n. list_all (comes_before n.name) (map name_of fs)) (sym same) ∙ pf.0) h.1)
    (not_first f fs gs (ap (λ n. list_all (comes_before n.name) (map name_of gs)) same ∙ pg.0) k.1) in
    ap₂ (λ n l. n ∷ l) same rest

-- ---- sorted fields

pub are_paths-sorted : (fs sorted : List (Named FieldType)) → IsPermutation fs sorted → IsSortedBy (λ a b. is_lt (path_cmp a.name b.name)) sorted
    → are_paths (map name_of fs) ≡ (list_all (λ f. is_path f.name) sorted && neighbours_apart (map name_of sorted))
are_paths-sorted fs sorted moved up =
    are_paths-moved fs sorted moved ∙ ap₂ (λ a b. a && b) (list_all-map is_path name_of sorted) (sym (neighbours_apart-Up (map name_of sorted) (up_of_sorted sorted up)))

pub arranged_fails : (fault : BodyFault) (fs : List (Named FieldType)) → fault ≡ Bad [] → are_paths (map name_of fs) ≡ false → Fails fault (arranged fs)
arranged_fails fault fs e h = rw (e, h) refl

pub in_order-sorted : (fs sorted : List (Named FieldType)) → IsPermutation fs sorted → IsSortedBy (λ a b. is_lt (path_cmp a.name b.name)) sorted → are_paths (map name_of fs) ≡ true → in_order fs ≡ sorted
in_order-sorted fs sorted moved up paths =
    let apart = (and_parts (list_all is_path (map name_of fs)) (are_apart (map name_of fs)) paths).1 in
    let sorted_paths : are_paths (map name_of sorted) ≡ true = sym (are_paths-moved fs sorted moved) ∙ paths in
    let sorted_apart = (and_parts (list_all is_path (map name_of sorted)) (are_apart (map name_of sorted)) sorted_paths).1 in
    let there = IsPermutation-trans _ _ _ (IsPermutation-sym _ _ (in_order-moved fs)) moved in
    one_order (in_order fs) sorted (in_order-ordered fs apart) (are_ordered-Up (map name_of sorted) (up_of_sorted sorted up) sorted_apart) (in_moved _ _ there) (in_moved _ _ (IsPermutation-sym _ _ there))

pub is_mapping-sorted : (fs sorted : List (Named FieldType)) → IsPermutation fs sorted → IsSortedBy (λ a b. is_lt (path_cmp a.name b.name)) sorted → are_paths (map name_of fs) ≡ true → is_mapping sorted ≡ true
is_mapping-sorted fs sorted moved up paths =
    let sorted_paths : are_paths (map name_of sorted) ≡ true = sym (are_paths-moved fs sorted moved) ∙ paths in
    let sorted_apart = (and_parts (list_all is_path (map name_of sorted)) (are_apart (map name_of sorted)) sorted_paths).1 in
    rw (sorted_paths, are_rising-ordered (map name_of sorted) (are_ordered-Up (map name_of sorted) (up_of_sorted sorted up) sorted_apart))
