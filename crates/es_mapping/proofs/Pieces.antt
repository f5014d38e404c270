-- Paths and their pieces, and the order of paths.
use Rattle.std.proofs.Common.{◌≡◌, ℕ, List, [], ◌∷◌, Bool, true, false, ◌&&◌, ◌==◌, if◌then◌else◌, Ordering, Less, Equal, Greater, nat_cmp, refl, sym, ap, ◌∙◌}
use Rattle.std.specs.List.{slice_split, onto_first, list_all}
use Rattle.std.specs.Ordering.{is_lt, is_eq, ordering_reverse}
use Rattle.std.specs.Cmp.{IsTotalOrder}
use Rattle.std.specs.Cmp.Lexicographic.{slice_cmp, pointwise, lists_ties, pointwise_decides}
use Rattle.std.specs.Str.{bytes_eq}
use Rattle.std.proofs.lemmas.Bool.{and_parts, false≢true, eqb-true}
use Rattle.std.proofs.lemmas.Cmp.{nat_list_cmp_total, lists_total, on_total, tied_itself}
use Rattle.std.proofs.lemmas.Map.Text.{is_eq-slice_cmp}
use Rattle.std.proofs.lemmas.Slice.Eq.{bytes_eq-Decides}
use Rattle.es_tree.proofs.Names.{less}
use Rattle.es_tree.specs.Leaves.{dotted, dotted_after}
use Rattle.es_mapping.specs.Paths.{grown, pieces, path_cmp, comes_before, are_rising_after, are_rising}

onto : (b : ℕ) (parts : List (List ℕ)) → onto_first b parts ≡ grown b parts
onto b [] = refl
onto b (p ∷ ps) = refl

split_at : (c : Bool) (b : ℕ) (parts others : List (List ℕ)) → parts ≡ others → (if c then [] ∷ parts else onto_first b parts) ≡ (if c then [] ∷ others else grown b others)
split_at true b parts others e = ap (λ ps. [] ∷ ps) e
split_at false b parts others e = onto b parts ∙ ap (grown b) e

-- the parts between dots, as the library cuts them
pub split-pieces : (path : List ℕ) → slice_split (λ b. b == 46) path ≡ pieces path
split-pieces [] = refl
split-pieces (b ∷ bs) = split_at (b == 46) b (slice_split (λ b. b == 46) bs) (pieces bs) (split-pieces bs)

-- ---- a text is its pieces, joined by dots

pub record Cut (parts : List (List ℕ)) : Type 0 where
  pub first : List ℕ
  pub rest : List (List ℕ)
  pub is : parts ≡ first ∷ rest

cut_at : (c : Bool) (b : ℕ) (parts : List (List ℕ)) → Cut parts → Cut (if c then [] ∷ parts else grown b parts)
cut_at true b parts cut = record { first = []; rest = parts; is = refl }
cut_at false b parts cut = record { first = b ∷ cut.first; rest = cut.rest; is = ap (grown b) cut.is }

-- there is a first piece
pub cut_of : (path : List ℕ) → Cut (pieces path)
cut_of [] = record { first = []; rest = []; is = refl }
cut_of (b ∷ bs) = cut_at (b == 46) b (pieces bs) (cut_of bs)

longer_first : (b : ℕ) (p : List ℕ) (ps : List (List ℕ)) → dotted_after (b ∷ p) ps ≡ b ∷ dotted_after p ps
longer_first b p [] = refl
longer_first b p (q ∷ qs) = refl

dotted_at : (c : Bool) (b : ℕ) (bs : List ℕ) (p : List ℕ) (ps : List (List ℕ)) → (b == 46) ≡ c → dotted (p ∷ ps) ≡ bs → dotted (if c then [] ∷ p ∷ ps else grown b (p ∷ ps)) ≡ b ∷ bs
dotted_at true b bs p ps dot e = rw (eqb-true b 46 dot) (ap (λ l. 46 ∷ l) e)
dotted_at false b bs p ps dot e = longer_first b p ps ∙ ap (λ l. b ∷ l) e

pub dotted-pieces : (path : List ℕ) → dotted (pieces path) ≡ path
dotted-pieces [] = refl
dotted-pieces (b ∷ bs) =
    let cut = cut_of bs in
    rw cut.is (dotted_at (b == 46) b bs cut.first cut.rest refl (ap dotted (sym cut.is) ∙ dotted-pieces bs))

-- ---- the order of paths

pub path_total : IsTotalOrder path_cmp
unfolding path_cmp
path_total = on_total pieces (lists_total nat_list_cmp_total)

pub is_eq-path_cmp : (x y : List ℕ) → is_eq (path_cmp x y) ≡ pointwise bytes_eq (pieces x) (pieces y)
unfolding path_cmp
is_eq-path_cmp x y = sym (lists_ties (slice_cmp nat_cmp) (λ p q. sym (is_eq-slice_cmp p q)) (pieces x) (pieces y))

-- paths that compare as equal are equal
pub same_path : (x y : List ℕ) → is_eq (path_cmp x y) ≡ true → x ≡ y
same_path x y h =
    let parts : pieces x ≡ pieces y = (pointwise_decides bytes_eq-Decides (pieces x) (pieces y)).0 (sym (is_eq-path_cmp x y) ∙ h) in
    sym (dotted-pieces x) ∙ ap dotted parts ∙ dotted-pieces y

pub later : (x y : List ℕ) → comes_before x y ≡ true → path_cmp y x ≡ Greater
later x y h = path_total.antisymm y x ∙ ap ordering_reverse (less _ h)

pub not_back : (x y : List ℕ) → comes_before x y ≡ true → comes_before y x ≡ false
not_back x y h = ap is_lt (later x y h)

pub before_all : (x y z : List ℕ) → comes_before x y ≡ true → comes_before y z ≡ true → comes_before x z ≡ true
before_all x y z h k = ap is_lt (path_total.trans x y z (less _ h) (less _ k))

not_true : (b : Bool) → (b ≡ true → false ≡ true) → b ≡ false
not_true true h = sym (h refl)
not_true false h = refl

pub itself : (x : List ℕ) → comes_before x x ≡ false
itself x = not_true (comes_before x x) (λ h. sym (not_back x x h) ∙ h)

-- paths that differ in order differ
pub differs : (x y : List ℕ) → comes_before x y ≡ true → bytes_eq x y ≡ false
differs x y h = not_true (bytes_eq x y) (λ e. sym (itself x) ∙ ap (comes_before x) ((bytes_eq-Decides x y).0 e) ∙ h)

turned : (o : Ordering) → is_eq o ≡ false → is_lt o ≡ false → is_lt (ordering_reverse o) ≡ true
turned Less e l = absurd (false≢true (sym l))
turned Equal e l = absurd (false≢true (sym e))
turned Greater e l = refl

unequal_cmp : (x y : List ℕ) → bytes_eq x y ≡ false → is_eq (path_cmp x y) ≡ false
unequal_cmp x y h = not_true (is_eq (path_cmp x y)) (λ e. sym h ∙ (bytes_eq-Decides x y).1 (same_path x y e))

-- of two paths that differ one comes before the other
pub after : (x y : List ℕ) → bytes_eq x y ≡ false → comes_before x y ≡ false → comes_before y x ≡ true
after x y e l = ap is_lt (path_total.antisymm y x) ∙ turned (path_cmp x y) (unequal_cmp x y e) l

-- and paths that don't compare as equal differ
pub unequal : (x y : List ℕ) → is_eq (path_cmp x y) ≡ false → bytes_eq x y ≡ false
unequal x y h = not_true (bytes_eq x y) (λ e. sym h ∙ ap (λ p. is_eq (path_cmp x p)) (sym ((bytes_eq-Decides x y).0 e)) ∙ ap is_eq (tied_itself path_total x))

-- each path comes before all that follow it
abbrev pub are_ordered : List (List ℕ) → Bool
are_ordered [] = true
are_ordered (x ∷ xs) = list_all (comes_before x) xs && are_ordered xs

before_later : (x y : List ℕ) (ys : List (List ℕ)) → comes_before x y ≡ true → list_all (comes_before y) ys ≡ true → list_all (comes_before x) ys ≡ true
before_later x y [] h all = refl
before_later x y (z ∷ zs) h all =
    let parts = and_parts (comes_before y z) (list_all (comes_before y) zs) all in
    rw (before_all x y z h parts.0, before_later x y zs h parts.1)

ordered_after : (x : List ℕ) (ys : List (List ℕ)) → are_rising_after x ys ≡ true → are_ordered (x ∷ ys) ≡ true
ordered_after x [] up = refl
ordered_after x (y ∷ ys) up =
    let parts = and_parts (comes_before x y) (are_rising_after y ys) up in
    let rest = ordered_after y ys parts.1 in
    let all = and_parts (list_all (comes_before y) ys) (are_ordered ys) rest in
    rw (parts.0, before_later x y ys parts.0 all.0, all.0, all.1)

pub are_ordered-rising : (xs : List (List ℕ)) → are_rising xs ≡ true → are_ordered xs ≡ true
are_ordered-rising [] up = refl
are_ordered-rising (x ∷ xs) up = ordered_after x xs up

rising_after : (x : List ℕ) (ys : List (List ℕ)) → are_ordered (x ∷ ys) ≡ true → are_rising_after x ys ≡ true
rising_after x [] up = refl
rising_after x (y ∷ ys) up =
    let parts = and_parts (list_all (comes_before x) (y ∷ ys)) (are_ordered (y ∷ ys)) up in
    rw ((and_parts (comes_before x y) (list_all (comes_before x) ys) parts.0).0, rising_after y ys parts.1)

pub are_rising-ordered : (xs : List (List ℕ)) → are_ordered xs ≡ true → are_rising xs ≡ true
are_rising-ordered [] up = refl
are_rising-ordered (x ∷ xs) up = rising_after x xs up
