-- Names in byte order, each once.
use Rattle.std.proofs.Common.{◌≡◌, ℕ, List, [], ◌∷◌, Bool, true, false, ◌||◌, if◌then◌else◌, Ordering, Less, Equal, Greater, nat_cmp, codes, refl, sym, ap, subst, ◌∙◌}
use Rattle.std.specs.List.{list_any, list_all, dedup, Contains, AllByRecursion}
use Rattle.std.specs.List.Sorted.{IsSorted, IsPermutation, IsStrictlySortedBy}
use Rattle.std.specs.Ordering.{is_lt, is_eq, ordering_reverse}
use Rattle.std.specs.Cmp.Lexicographic.{slice_cmp}
use Rattle.std.specs.Str.{bytes_eq}
use Rattle.std.proofs.lemmas.Bool.{and_parts, false≢true}
use Rattle.std.proofs.lemmas.Cmp.{nat_list_cmp_total, nat_list_eq_equiv}
use Rattle.std.proofs.lemmas.List.Folds.{Any-from_list_any, list_any-from_Any}
use Rattle.std.proofs.lemmas.List.Kept.{IsStrictlySortedBy-dedup, Contains-dedup, Contains-from_dedup}
use Rattle.std.proofs.lemmas.List.Sorted.{list_any-IsPermutation}
use Rattle.std.proofs.lemmas.Map.Text.{is_eq-slice_cmp}
use Rattle.std.proofs.lemmas.Slice.Eq.{bytes_eq-Decides}
use Rattle.es_tree.specs.Rising.{is_before, is_rising}
use Rattle.es_tree.proofs.Names.{less, above, before_all}
use Rattle.es_cred.specs.Names.{with_name, in_order}

-- whether the name is one of these
abbrev pub has : List (List ℕ) → List ℕ → Bool
has xs q = list_any (bytes_eq q) xs

equal : (x y : List ℕ) → bytes_eq x y ≡ true → x ≡ y
equal x y h = (bytes_eq-Decides x y).0 h

itself : (x : List ℕ) → bytes_eq x x ≡ true
itself x = (bytes_eq-Decides x x).1 refl

differs : (x y : List ℕ) → is_before x y ≡ true → bytes_eq x y ≡ false
differs x y h = sym (is_eq-slice_cmp x y) ∙ ap is_eq (less _ h)

not_back : (x y : List ℕ) → is_before x y ≡ true → is_before y x ≡ false
not_back x y h = ap is_lt (above x y h)

turned : (o : Ordering) → is_eq o ≡ false → is_lt o ≡ false → is_lt (ordering_reverse o) ≡ true
turned Less e l = absurd (false≢true (sym l))
turned Equal e l = absurd (false≢true (sym e))
turned Greater e l = refl

after : (x y : List ℕ) → bytes_eq x y ≡ false → is_before x y ≡ false → is_before y x ≡ true
after x y e l = ap is_lt (nat_list_cmp_total.antisymm y x) ∙ turned (slice_cmp nat_cmp x y) (is_eq-slice_cmp x y ∙ e) l

all_after : (x y : List ℕ) (ys : List (List ℕ)) → is_before x y ≡ true → list_all (is_before y) ys ≡ true → list_all (is_before x) ys ≡ true
all_after x y [] h all = refl
all_after x y (z ∷ zs) h all =
    let parts = and_parts (is_before y z) (list_all (is_before y) zs) all in
    rw (before_all x y z h parts.0, all_after x y zs h parts.1)

-- ---- one name more

all_placed : (p : List ℕ → Bool) (b c : Bool) (name y : List ℕ) (ys zs : List (List ℕ)) → p name ≡ true → p y ≡ true → list_all p ys ≡ true → list_all p zs ≡ true → list_all p (if b then y ∷ ys else (if c then name ∷ y ∷ ys else y ∷ zs)) ≡ true
all_placed p true c name y ys zs n h t z = rw (h, t)
all_placed p false true name y ys zs n h t z = rw (n, h, t)
all_placed p false false name y ys zs n h t z = rw (h, z)

all-with_name : (p : List ℕ → Bool) (name : List ℕ) (ys : List (List ℕ)) → p name ≡ true → list_all p ys ≡ true → list_all p (with_name name ys) ≡ true
all-with_name p name [] n all = rw n
all-with_name p name (y ∷ ys) n all =
    let parts = and_parts (p y) (list_all p ys) all in
    all_placed p (bytes_eq name y) (is_before name y) name y ys (with_name name ys) n parts.0 parts.1 (all-with_name p name ys n parts.1)

rising_placed : (b c : Bool) (name y : List ℕ) (ys zs : List (List ℕ)) → bytes_eq name y ≡ b → is_before name y ≡ c → list_all (is_before y) ys ≡ true → is_rising ys ≡ true → (is_before y name ≡ true → list_all (is_before y) zs ≡ true) → is_rising zs ≡ true → is_rising (if b then y ∷ ys else (if c then name ∷ y ∷ ys else y ∷ zs)) ≡ true
rising_placed true c name y ys zs e l all up placed more = rw (all, up)
rising_placed false true name y ys zs e l all up placed more = rw (l, all_after name y ys l all, all, up)
rising_placed false false name y ys zs e l all up placed more = rw (placed (after name y e l), more)

rising-with_name : (name : List ℕ) (ys : List (List ℕ)) → is_rising ys ≡ true → is_rising (with_name name ys) ≡ true
rising-with_name name [] up = refl
rising-with_name name (y ∷ ys) up =
    let parts = and_parts (list_all (is_before y) ys) (is_rising ys) up in
    rising_placed (bytes_eq name y) (is_before name y) name y ys (with_name name ys) refl refl parts.0 parts.1 (λ before. all-with_name (is_before y) name ys before parts.0) (rising-with_name name ys parts.1)

or_swap : (a b c : Bool) → (a || (b || c)) ≡ (b || (a || c))
or_swap true true c = refl
or_swap true false c = refl
or_swap false b c = refl

or_twice : (a b : Bool) → (a || b) ≡ (a || (a || b))
or_twice true b = refl
or_twice false b = refl

has_placed : (b c : Bool) (q name y : List ℕ) (ys zs : List (List ℕ)) → bytes_eq name y ≡ b → has zs q ≡ (bytes_eq q name || has ys q) → has (if b then y ∷ ys else (if c then name ∷ y ∷ ys else y ∷ zs)) q ≡ (bytes_eq q name || (bytes_eq q y || has ys q))
has_placed true c q name y ys zs e more = rw (equal name y e) (or_twice (bytes_eq q y) (has ys q))
has_placed false true q name y ys zs e more = refl
has_placed false false q name y ys zs e more = rw more (or_swap (bytes_eq q y) (bytes_eq q name) (has ys q))

has-with_name : (q name : List ℕ) (ys : List (List ℕ)) → has (with_name name ys) q ≡ (bytes_eq q name || has ys q)
has-with_name q name [] = refl
has-with_name q name (y ∷ ys) = has_placed (bytes_eq name y) (is_before name y) q name y ys (with_name name ys) refl (has-with_name q name ys)

-- each name comes before all that follow it, so none stands twice
pub in_order-rising : (xs : List (List ℕ)) → is_rising (in_order xs) ≡ true
in_order-rising [] = refl
in_order-rising (x ∷ xs) = rising-with_name x (in_order xs) (in_order-rising xs)

has-in_order : (q : List ℕ) (xs : List (List ℕ)) → has (in_order xs) q ≡ has xs q
has-in_order q [] = refl
has-in_order q (x ∷ xs) = has-with_name q x (in_order xs) ∙ ap (λ b. bytes_eq q x || b) (has-in_order q xs)

-- ---- members

has_of : (xs : List (List ℕ)) (q : List ℕ) → Contains xs q → has xs q ≡ true
has_of xs q c = list_any-from_Any (bytes_eq q) xs (c.0, q, c.1, c.2, itself q)

contained : (xs : List (List ℕ)) (q : List ℕ) → has xs q ≡ true → Contains xs q
contained xs q h =
    let found = Any-from_list_any (bytes_eq q) xs h in
    subst (Contains xs) (sym (equal q found.1 found.4)) (found.0, found.2, found.3)

-- each name is among the names in order
pub in_order-holds : (xs : List (List ℕ)) (x : List ℕ) → Contains xs x → Contains (in_order xs) x
in_order-holds xs x c = contained (in_order xs) x (has-in_order x xs ∙ has_of xs x c)

-- and no other is
pub in_order-only : (xs : List (List ℕ)) (x : List ℕ) → Contains (in_order xs) x → Contains xs x
in_order-only xs x c = contained xs x (sym (has-in_order x xs) ∙ has_of (in_order xs) x c)

-- ---- rising names are known by their members

not_in : (x : List ℕ) (xs : List (List ℕ)) → list_all (is_before x) xs ≡ true → has xs x ≡ false
not_in x [] all = refl
not_in x (y ∷ ys) all =
    let parts = and_parts (is_before x y) (list_all (is_before x) ys) all in
    rw (differs x y parts.0, not_in x ys parts.1)

before_in : (x q : List ℕ) (xs : List (List ℕ)) → list_all (is_before x) xs ≡ true → has xs q ≡ true → is_before x q ≡ true
before_in x q [] all h = absurd (false≢true h)
before_in x q (y ∷ ys) all h =
    let parts = and_parts (is_before x y) (list_all (is_before x) ys) all in
    elim (bytes_eq q y) as (λ b. bytes_eq q y ≡ b → (b || has ys q) ≡ true → is_before x q ≡ true) [
      | true ↦ λ e _. subst (λ z. is_before x z ≡ true) (sym (equal q y e)) parts.0
      | false ↦ λ e rest. before_in x q ys parts.1 rest
    ] refl h

-- a member is the first or comes behind it
first_or_behind : (x q : List ℕ) (xs : List (List ℕ)) (b : Bool) → bytes_eq q x ≡ b → list_all (is_before x) xs ≡ true → (b || has xs q) ≡ true → is_before q x ≡ true → q ≡ x
first_or_behind x q xs true e all h back = equal q x e
first_or_behind x q xs false e all h back = absurd (false≢true (sym (not_back x q (before_in x q xs all h)) ∙ back))

same_first : (x y : List ℕ) (xs ys : List (List ℕ)) → list_all (is_before x) xs ≡ true → list_all (is_before y) ys ≡ true → (bytes_eq x y || has ys x) ≡ true → (bytes_eq y x || has xs y) ≡ true → x ≡ y
same_first x y xs ys ax ay hx hy =
    elim (bytes_eq x y) as (λ b. bytes_eq x y ≡ b → (b || has ys x) ≡ true → x ≡ y) [
      | true ↦ λ e _. equal x y e
      | false ↦ λ _ rest. sym (first_or_behind x y xs (bytes_eq y x) refl ax hy (before_in y x ys ay rest))
    ] refl hx

rest_same : (x q : List ℕ) (xs ys : List (List ℕ)) (b : Bool) → bytes_eq q x ≡ b → list_all (is_before x) xs ≡ true → list_all (is_before x) ys ≡ true → (b || has xs q) ≡ (b || has ys q) → has xs q ≡ has ys q
rest_same x q xs ys true e ax ay same = rw (equal q x e, not_in x xs ax, not_in x ys ay)
rest_same x q xs ys false e ax ay same = same

same_rising : (xs ys : List (List ℕ)) → is_rising xs ≡ true → is_rising ys ≡ true → ((q : List ℕ) → has xs q ≡ has ys q) → xs ≡ ys
same_rising [] [] ux uy same = refl
same_rising [] (y ∷ ys) ux uy same = absurd (false≢true (same y ∙ ap (λ b. b || has ys y) (itself y)))
same_rising (x ∷ xs) [] ux uy same = absurd (false≢true (sym (same x) ∙ ap (λ b. b || has xs x) (itself x)))
same_rising (x ∷ xs) (y ∷ ys) ux uy same =
    let px = and_parts (list_all (is_before x) xs) (is_rising xs) ux in
    let py = and_parts (list_all (is_before y) ys) (is_rising ys) uy in
    let e : x ≡ y = same_first x y xs ys px.0 py.0 (sym (same x) ∙ ap (λ b. b || has xs x) (itself x)) (same y ∙ ap (λ b. b || has ys y) (itself y)) in
    let all : list_all (is_before x) ys ≡ true = rw e py.0 in
    let rest : xs ≡ ys = same_rising xs ys px.1 py.1 (λ q. rest_same x q xs ys (bytes_eq q x) refl px.0 all (same q ∙ ap (λ z. bytes_eq q z || has ys q) (sym e))) in
    rw (e, rest)

-- ---- names that are sorted, each kept once

same_truth : (a b : Bool) → (a ≡ true → b ≡ true) → (b ≡ true → a ≡ true) → a ≡ b
same_truth true b f g = sym (f refl)
same_truth false true f g = g refl
same_truth false false f g = refl

all_less : (x : List ℕ) (xs : List (List ℕ)) → AllByRecursion (λ y. slice_cmp nat_cmp x y ≡ Less) xs → list_all (is_before x) xs ≡ true
all_less x [] all = refl
all_less x (y ∷ ys) all = rw (ap is_lt all.0, all_less x ys all.1)

rising_from_sorted : (xs : List (List ℕ)) → IsStrictlySortedBy (slice_cmp nat_cmp) xs → is_rising xs ≡ true
unfolding IsStrictlySortedBy
rising_from_sorted [] up = refl
rising_from_sorted (x ∷ xs) up = rw (all_less x xs up.0, rising_from_sorted xs up.1)

has-dedup : (ys : List (List ℕ)) (q : List ℕ) → has (dedup bytes_eq ys) q ≡ has ys q
has-dedup ys q = same_truth _ _
    (λ h. has_of ys q (Contains-from_dedup bytes_eq ys q (contained _ q h)))
    (λ h. has_of _ q (Contains-dedup nat_list_eq_equiv equal ys q (contained ys q h)))

pub sorted_once : (xs ys : List (List ℕ)) → IsPermutation xs ys → IsSorted (slice_cmp nat_cmp) ys → dedup bytes_eq ys ≡ in_order xs
sorted_once xs ys moved up =
    same_rising (dedup bytes_eq ys) (in_order xs)
    (rising_from_sorted _ (IsStrictlySortedBy-dedup nat_list_cmp_total (λ x y. sym (is_eq-slice_cmp x y)) ys up))
    (in_order-rising xs)
    (λ q. has-dedup ys q ∙ sym (list_any-IsPermutation (bytes_eq q) xs ys moved) ∙ sym (has-in_order q xs))

-- the names of a user's members stand in the order of their bytes
pub names_rise : is_rising (codes "email" ∷ codes "full_name" ∷ codes "metadata" ∷ codes "roles" ∷ codes "secret" ∷ []) ≡ true
names_rise = refl
