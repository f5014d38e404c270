-- Fields in groups by their first names.
use Rattle.std.proofs.Common.{◌≡◌, ◌+◌, ◌<◌, ◌≤◌, ℕ, zero, suc, List, [], ◌∷◌, ◌++◌, map, length, take, drop, slice_get, Option, Some, None, Bool, true, false, ◌&&◌, ◌||◌, if◌then◌else◌, nat_cmp, refl, sym, ap, ap₂, ◌∙◌, subst, add-one, arith}
use Rattle.std.specs.List.{list_all, flat_map, AllByRecursion}
use Rattle.std.specs.Ordering.{is_lt}
use Rattle.std.specs.Cmp.Lexicographic.{slice_cmp}
use Rattle.std.specs.Str.{bytes_eq}
use Rattle.std.proofs.lemmas.Bool.{and_parts, false≢true}
use Rattle.std.proofs.lemmas.Cmp.{nat_list_cmp_total, tied_itself}
use Rattle.std.proofs.lemmas.Option.{none-some}
use Rattle.std.proofs.lemmas.Slice.Eq.{bytes_eq-Decides}
use Rattle.es_tree.proofs.Names.{less}
use Rattle.es_tree.specs.declared.tree.Named.{Named}
use Rattle.es_tree.specs.Rising.{name_of, is_before, is_rising}
use Rattle.es_grammar.specs.Values.{has_some}
use Rattle.es_value.specs.declared.kinds.FieldType.{FieldType}
use Rattle.es_mapping.specs.Paths.{pieces}
use Rattle.es_mapping.specs.Mappings.{Typed, headed, joined}
use Rattle.es_mapping.specs.Printed.{grouped_with, group_first, groups, left_at, is_headed, run_of, parts_before, are_parted, have_names}

abbrev pub Group : Type 0
Group = Named (List Typed)

-- the fields of groups, each with its names again
abbrev pub ungrouped : List Group → List Typed
ungrouped gs = joined (map (λ g. headed g.name g.value) gs)

-- ---- names

pub same_name : (n m : List ℕ) → bytes_eq n m ≡ true → n ≡ m
same_name n m e = (bytes_eq-Decides n m).0 e

pub itself_named : (n : List ℕ) → bytes_eq n n ≡ true
itself_named n = (bytes_eq-Decides n n).1 refl

not_before_itself : (n : List ℕ) → is_before n n ≡ false
not_before_itself n = ap is_lt (tied_itself nat_list_cmp_total n)

before_later : (x y z : List ℕ) → is_before x y ≡ true → is_before y z ≡ true → is_before x z ≡ true
before_later x y z h k = ap is_lt (nat_list_cmp_total.trans x y z (less _ h) (less _ k))

all_later : (x y : List ℕ) (zs : List (List ℕ)) → is_before x y ≡ true → list_all (is_before y) zs ≡ true → list_all (is_before x) zs ≡ true
all_later x y [] h all = refl
all_later x y (z ∷ zs) h all =
    let parts = and_parts (is_before y z) (list_all (is_before y) zs) all in
    rw (before_later x y z h parts.0, all_later x y zs h parts.1)

-- what stands behind a same name parts itself
rest_parts : (n m : List ℕ) (ns vs : List (List ℕ)) → n ≡ m → parts_before (n ∷ ns) (m ∷ vs) ≡ true → parts_before ns vs ≡ true
rest_parts n m ns vs e h = by (is_before n m) (bytes_eq n m) (parts_before ns vs) (ap (is_before n) (sym e) ∙ not_before_itself n) h
  where
    by : (a b c : Bool) → a ≡ false → (a || (b && c)) ≡ true → c ≡ true
    by true b c f t = absurd (false≢true (sym f))
    by false true c f t = t
    by false false c f t = absurd (false≢true t)

-- names that part at the first one
first_parts : (n m : List ℕ) (ns vs : List (List ℕ)) → bytes_eq n m ≡ false → parts_before (n ∷ ns) (m ∷ vs) ≡ true → is_before n m ≡ true
first_parts n m ns vs e h = by (is_before n m) (bytes_eq n m) (parts_before ns vs) e h
  where
    by : (a b c : Bool) → b ≡ false → (a || (b && c)) ≡ true → a ≡ true
    by true b c f t = refl
    by false true c f t = absurd (false≢true (sym f))
    by false false c f t = absurd (false≢true t)

all_front : {A : Type 0} (p : A → Bool) (xs ys : List A) → list_all p (xs ++ ys) ≡ true → list_all p xs ≡ true
all_front p [] ys h = refl
all_front p (x ∷ xs) ys h = let parts = and_parts (p x) (list_all p (xs ++ ys)) h in rw (parts.0, all_front p xs ys parts.1)

-- ---- groups have the fields

ungrouped_if : (b : Bool) (n : List ℕ) (f : Typed) (g : Group) (gs : List Group) → bytes_eq n g.name ≡ b
    → ungrouped (if b then (record { name = n; value = f ∷ g.value }) ∷ gs else (record { name = n; value = f ∷ [] }) ∷ g ∷ gs) ≡ (n ∷ f.0, f.1) ∷ ungrouped (g ∷ gs)
ungrouped_if true n f g gs e = ap (λ m. (n ∷ f.0, f.1) ∷ (headed m g.value ++ ungrouped gs)) (same_name n g.name e)
ungrouped_if false n f g gs e = refl

ungrouped-with : (n : List ℕ) (f : Typed) (gs : List Group) → ungrouped (grouped_with n f gs) ≡ (n ∷ f.0, f.1) ∷ ungrouped gs
ungrouped-with n f [] = refl
ungrouped-with n f (g ∷ gs) = ungrouped_if (bytes_eq n g.name) n f g gs refl

-- the groups of fields that have names have just these fields
pub ungrouped-groups : (fs : List Typed) → list_all (λ f. has_some f.0) fs ≡ true → ungrouped (groups fs) ≡ fs
ungrouped-groups [] h = refl
ungrouped-groups (([], k) ∷ fs) h = absurd (false≢true h)
ungrouped-groups ((n ∷ ns, k) ∷ fs) h = ungrouped-with n (ns, k) (groups fs) ∙ ap (λ l. (n ∷ ns, k) ∷ l) (ungrouped-groups fs h)

-- ---- what holds of each group

abbrev pub IsFilled : Group → Type 0
IsFilled g = has_some g.value ≡ true

abbrev pub IsParted : Group → Type 0
IsParted g = are_parted g.value ≡ true

abbrev pub IsShort : ℕ → List Typed → Type 0
IsShort n fs = AllByRecursion (λ f. length f.0 ≤ n) fs

filled_if : (b : Bool) (n : List ℕ) (f : Typed) (g : Group) (gs : List Group) → AllByRecursion IsFilled (g ∷ gs)
    → AllByRecursion IsFilled (if b then (record { name = n; value = f ∷ g.value }) ∷ gs else (record { name = n; value = f ∷ [] }) ∷ g ∷ gs)
filled_if true n f g gs h = (refl, h.1)
filled_if false n f g gs h = (refl, h)

filled-with : (n : List ℕ) (f : Typed) (gs : List Group) → AllByRecursion IsFilled gs → AllByRecursion IsFilled (grouped_with n f gs)
filled-with n f [] h = (refl, tt)
filled-with n f (g ∷ gs) h = filled_if (bytes_eq n g.name) n f g gs h

pub filled-groups : (fs : List Typed) → AllByRecursion IsFilled (groups fs)
filled-groups [] = tt
filled-groups (([], k) ∷ fs) = filled-groups fs
filled-groups ((n ∷ ns, k) ∷ fs) = filled-with n (ns, k) (groups fs) (filled-groups fs)

short_if : (b : Bool) (l : ℕ) (n : List ℕ) (f : Typed) (g : Group) (gs : List Group) → length f.0 ≤ l → AllByRecursion (λ (h : Group). IsShort l h.value) (g ∷ gs)
    → AllByRecursion (λ (h : Group). IsShort l h.value) (if b then (record { name = n; value = f ∷ g.value }) ∷ gs else (record { name = n; value = f ∷ [] }) ∷ g ∷ gs)
short_if true l n f g gs s h = ((s, h.0), h.1)
short_if false l n f g gs s h = ((s, tt), h)

short-with : (l : ℕ) (n : List ℕ) (f : Typed) (gs : List Group) → length f.0 ≤ l → AllByRecursion (λ (g : Group). IsShort l g.value) gs → AllByRecursion (λ (g : Group). IsShort l g.value) (grouped_with n f gs)
short-with l n f [] s h = ((s, tt), tt)
short-with l n f (g ∷ gs) s h = short_if (bytes_eq n g.name) l n f g gs s h

pub short-groups : (l : ℕ) (fs : List Typed) → IsShort (suc l) fs → AllByRecursion (λ (g : Group). IsShort l g.value) (groups fs)
short-groups l [] h = tt
short-groups l (([], k) ∷ fs) h = short-groups l fs h.1
short-groups l ((n ∷ ns, k) ∷ fs) h = let first = h.0 in short-with l n (ns, k) (groups fs) (omega arith) (short-groups l fs h.1)

parted_under : (n m : List ℕ) (ns : List (List ℕ)) (vs : List Typed) → n ≡ m → list_all (λ (g : Typed). parts_before (n ∷ ns) g.0) (headed m vs) ≡ true → list_all (λ (g : Typed). parts_before ns g.0) vs ≡ true
parted_under n m ns [] e h = refl
parted_under n m ns (v ∷ vs) e h =
    let parts = and_parts (parts_before (n ∷ ns) (m ∷ v.0)) (list_all (λ (g : Typed). parts_before (n ∷ ns) g.0) (headed m vs)) h in
    rw (rest_parts n m ns v.0 e parts.0, parted_under n m ns vs e parts.1)

parted_if : (b : Bool) (n : List ℕ) (f : Typed) (g : Group) (gs : List Group) → bytes_eq n g.name ≡ b → list_all (λ (h : Typed). parts_before (n ∷ f.0) h.0) (ungrouped (g ∷ gs)) ≡ true → AllByRecursion IsParted (g ∷ gs)
    → AllByRecursion IsParted (if b then (record { name = n; value = f ∷ g.value }) ∷ gs else (record { name = n; value = f ∷ [] }) ∷ g ∷ gs)
parted_if true n f g gs e before h =
    let here : list_all (λ (v : Typed). parts_before f.0 v.0) g.value ≡ true = parted_under n g.name f.0 g.value (same_name n g.name e) (all_front (λ (v : Typed). parts_before (n ∷ f.0) v.0) (headed g.name g.value) (ungrouped gs) before) in
    (rw (here, h.0), h.1)
parted_if false n f g gs e before h = (refl, h)

parted-with : (n : List ℕ) (f : Typed) (gs : List Group) → list_all (λ (h : Typed). parts_before (n ∷ f.0) h.0) (ungrouped gs) ≡ true → AllByRecursion IsParted gs → AllByRecursion IsParted (grouped_with n f gs)
parted-with n f [] before h = (refl, tt)
parted-with n f (g ∷ gs) before h = parted_if (bytes_eq n g.name) n f g gs refl before h

all_named : (f : Typed) (fs : List Typed) → list_all (λ (h : Typed). parts_before f.0 h.0) fs ≡ true → list_all (λ (h : Typed). has_some h.0) fs ≡ true → list_all (λ (h : Typed). parts_before f.0 h.0) (ungrouped (groups fs)) ≡ true
all_named f fs before h = ap (list_all (λ (g : Typed). parts_before f.0 g.0)) (ungrouped-groups fs h) ∙ before

pub parted-groups : (fs : List Typed) → list_all (λ f. has_some f.0) fs ≡ true → are_parted fs ≡ true → AllByRecursion IsParted (groups fs)
parted-groups [] h p = tt
parted-groups (([], k) ∷ fs) h p = absurd (false≢true h)
parted-groups ((n ∷ ns, k) ∷ fs) h p =
    let parts = and_parts (list_all (λ (g : Typed). parts_before (n ∷ ns) g.0) fs) (are_parted fs) p in
    parted-with n (ns, k) (groups fs) (all_named (n ∷ ns, k) fs parts.0 h) (parted-groups fs h parts.1)

-- ---- the names of groups rise

first_before : (n : List ℕ) (f : Typed) (g : Group) (gs : List Group) → bytes_eq n g.name ≡ false → IsFilled g → list_all (λ (h : Typed). parts_before (n ∷ f.0) h.0) (ungrouped (g ∷ gs)) ≡ true → is_before n g.name ≡ true
first_before n f g gs e filled before = by g.value filled (all_front (λ (v : Typed). parts_before (n ∷ f.0) v.0) (headed g.name g.value) (ungrouped gs) before)
  where
    by : (vs : List Typed) → has_some vs ≡ true → list_all (λ (h : Typed). parts_before (n ∷ f.0) h.0) (headed g.name vs) ≡ true → is_before n g.name ≡ true
    by [] some all = absurd (false≢true some)
    by (v ∷ vs) some all = first_parts n g.name f.0 v.0 e (and_parts (parts_before (n ∷ f.0) (g.name ∷ v.0)) (list_all (λ (h : Typed). parts_before (n ∷ f.0) h.0) (headed g.name vs)) all).0

rising_if : (b : Bool) (n : List ℕ) (f : Typed) (g : Group) (gs : List Group) → bytes_eq n g.name ≡ b → IsFilled g → list_all (λ (h : Typed). parts_before (n ∷ f.0) h.0) (ungrouped (g ∷ gs)) ≡ true → is_rising (map name_of (g ∷ gs)) ≡ true
    → is_rising (map name_of (if b then (record { name = n; value = f ∷ g.value }) ∷ gs else (record { name = n; value = f ∷ [] }) ∷ g ∷ gs)) ≡ true
rising_if true n f g gs e filled before up = ap (λ m. is_rising (m ∷ map name_of gs)) (same_name n g.name e) ∙ up
rising_if false n f g gs e filled before up =
    let here : is_before n g.name ≡ true = first_before n f g gs e filled before in
    let parts = and_parts (list_all (is_before g.name) (map name_of gs)) (is_rising (map name_of gs)) up in
    let later : list_all (is_before n) (map name_of gs) ≡ true = all_later n g.name (map name_of gs) here parts.0 in
    rw (here, later, parts.0, parts.1)

rising-with : (n : List ℕ) (f : Typed) (gs : List Group) → AllByRecursion IsFilled gs → list_all (λ (h : Typed). parts_before (n ∷ f.0) h.0) (ungrouped gs) ≡ true → is_rising (map name_of gs) ≡ true → is_rising (map name_of (grouped_with n f gs)) ≡ true
rising-with n f [] filled before up = refl
rising-with n f (g ∷ gs) filled before up = rising_if (bytes_eq n g.name) n f g gs refl filled.0 before up

pub rising-groups : (fs : List Typed) → list_all (λ f. has_some f.0) fs ≡ true → are_parted fs ≡ true → is_rising (map name_of (groups fs)) ≡ true
rising-groups [] h p = refl
rising-groups (([], k) ∷ fs) h p = absurd (false≢true h)
rising-groups ((n ∷ ns, k) ∷ fs) h p =
    let parts = and_parts (list_all (λ (g : Typed). parts_before (n ∷ ns) g.0) fs) (are_parted fs) p in
    rising-with n (ns, k) (groups fs) (filled-groups fs) (all_named (n ∷ ns, k) fs parts.0 h) (rising-groups fs h parts.1)

-- ---- the first group

abbrev pub tail_of : Typed → Typed
tail_of f = (drop 1 f.0, f.1)

-- groups whose first one has this name
record Led (n : List ℕ) (gs : List Group) : Type 0 where
  pub value : List Typed
  pub rest : List Group
  pub is : gs ≡ (record { name = n; value = value }) ∷ rest

led_if : (b : Bool) (n : List ℕ) (f : Typed) (g : Group) (gs : List Group) → Led n (if b then (record { name = n; value = f ∷ g.value }) ∷ gs else (record { name = n; value = f ∷ [] }) ∷ g ∷ gs)
led_if true n f g gs = record { value = f ∷ g.value; rest = gs; is = refl }
led_if false n f g gs = record { value = f ∷ []; rest = g ∷ gs; is = refl }

led_with : (n : List ℕ) (f : Typed) (gs : List Group) → Led n (grouped_with n f gs)
led_with n f [] = record { value = f ∷ []; rest = []; is = refl }
led_with n f (g ∷ gs) = led_if (bytes_eq n g.name) n f g gs

apart_from : (name n : List ℕ) (f : Typed) (gs : List Group) → Led n gs → bytes_eq name n ≡ false → grouped_with name f gs ≡ (record { name = name; value = f ∷ [] }) ∷ gs
apart_from name n f gs led e = rw (led.is, e) refl

joins : (name : List ℕ) (f : Typed) (fs : List Typed) (gs hs : List Group) → gs ≡ (record { name = name; value = fs }) ∷ hs → grouped_with name f gs ≡ (record { name = name; value = f ∷ fs }) ∷ hs
joins name f fs gs hs e = rw (e, itself_named name) refl

other_way : (n m : List ℕ) → bytes_eq n m ≡ false → bytes_eq m n ≡ false
other_way n m e = by (bytes_eq m n) refl
  where
    by : (b : Bool) → bytes_eq m n ≡ b → bytes_eq m n ≡ false
    by true h = absurd (false≢true (sym e ∙ ap (λ x. bytes_eq x m) (sym (same_name m n h)) ∙ itself_named m))
    by false h = h

same_or_apart : (b : Bool) (name : List ℕ) (f : Typed) (m : List ℕ) (ms : List (List ℕ)) (j : FieldType) (rest : List Typed) → bytes_eq m name ≡ b
    → grouped_with name (ms, j) (groups rest) ≡ (record { name = name; value = (ms, j) ∷ map tail_of (take (run_of name rest) rest) }) ∷ groups (drop (run_of name rest) rest)
    → grouped_with name f (grouped_with m (ms, j) (groups rest)) ≡ (record { name = name; value = f ∷ map tail_of (take (if b then suc (run_of name rest) else zero) ((m ∷ ms, j) ∷ rest)) }) ∷ groups (drop (if b then suc (run_of name rest) else zero) ((m ∷ ms, j) ∷ rest))
same_or_apart true name f m ms j rest e more = joins name f _ _ _ (ap (λ n. grouped_with n (ms, j) (groups rest)) (same_name m name e) ∙ more)
same_or_apart false name f m ms j rest e more = apart_from name m f (grouped_with m (ms, j) (groups rest)) (led_with m (ms, j) (groups rest)) (other_way m name e)

joined_by : (name : List ℕ) (f : Typed) (fs : List Typed) → list_all (λ (g : Typed). has_some g.0) fs ≡ true
    → grouped_with name f (groups fs) ≡ (record { name = name; value = f ∷ map tail_of (take (run_of name fs) fs) }) ∷ groups (drop (run_of name fs) fs)
joined_by name f [] some = refl
joined_by name f (([], j) ∷ rest) some = absurd (false≢true some)
joined_by name f ((m ∷ ms, j) ∷ rest) some = same_or_apart (bytes_eq m name) name f m ms j rest refl (joined_by name (ms, j) rest some)

-- the fields at the front with one first name are the first group
pub first_group : (name : List ℕ) (f : Typed) (fs : List Typed) → is_headed name f.0 ≡ true → list_all (λ (g : Typed). has_some g.0) fs ≡ true
    → groups (f ∷ fs) ≡ (record { name = name; value = map tail_of (take (run_of name (f ∷ fs)) (f ∷ fs)) }) ∷ groups (drop (run_of name (f ∷ fs)) (f ∷ fs))
first_group name ([], k) fs lead some = absurd (false≢true lead)
first_group name (n ∷ ns, k) fs lead some =
    rw lead (ap (λ (m : List ℕ). grouped_with m (ns, k) (groups fs)) (same_name n name lead) ∙ joined_by name (ns, k) fs some)

-- ---- names at a depth

pub drop_at : {A : Type 0} (d : ℕ) (xs : List A) (x : A) → slice_get xs d ≡ Some x → drop d xs ≡ x ∷ drop (suc d) xs
drop_at d [] x e = absurd (none-some x e)
drop_at zero (y ∷ xs) x e = let same : y ≡ x = cc in ap (λ z. z ∷ xs) same
drop_at (suc d) (y ∷ xs) x e = drop_at d xs x e

pub drop_past : {A : Type 0} (d : ℕ) (xs : List A) → slice_get xs d ≡ None → drop d xs ≡ []
drop_past zero [] e = refl
drop_past (suc d) [] e = refl
drop_past zero (y ∷ xs) e = absurd (cc)
drop_past (suc d) (y ∷ xs) e = drop_past d xs e

drop_more_one : {A : Type 0} (d : ℕ) (xs : List A) → drop 1 (drop d xs) ≡ drop (suc d) xs
drop_more_one zero [] = refl
drop_more_one zero (x ∷ xs) = refl
drop_more_one (suc d) [] = refl
drop_more_one (suc d) (x ∷ xs) = drop_more_one d xs

tails_at : (d : ℕ) (fs : List (Named FieldType)) → map tail_of (map (left_at d) fs) ≡ map (left_at (suc d)) fs
tails_at d [] = refl
tails_at d (f ∷ fs) = ap₂ (λ (names : List (List ℕ)) (l : List Typed). (names, f.value) ∷ l) (drop_more_one d (pieces f.name)) (tails_at d fs)

take_map : {A B : Type 0} (h : A → B) (k : ℕ) (xs : List A) → take k (map h xs) ≡ map h (take k xs)
take_map h zero xs = refl
take_map h (suc k) [] = refl
take_map h (suc k) (x ∷ xs) = ap (λ l. h x ∷ l) (take_map h k xs)

drop_map : {A B : Type 0} (h : A → B) (k : ℕ) (xs : List A) → drop k (map h xs) ≡ map h (drop k xs)
drop_map h zero xs = refl
drop_map h (suc k) [] = refl
drop_map h (suc k) (x ∷ xs) = drop_map h k xs

-- the same of the fields at a depth
pub first_group_at : (d : ℕ) (name : List ℕ) (f : Named FieldType) (fs : List (Named FieldType)) → is_headed name (drop d (pieces f.name)) ≡ true → have_names (map (left_at d) (f ∷ fs)) ≡ true
    → groups (map (left_at d) (f ∷ fs)) ≡ (record { name = name; value = map (left_at (suc d)) (take (run_of name (map (left_at d) (f ∷ fs))) (f ∷ fs)) }) ∷ groups (map (left_at d) (drop (run_of name (map (left_at d) (f ∷ fs))) (f ∷ fs)))
first_group_at d name f fs lead h =
    let all = f ∷ fs in
    let count = run_of name (map (left_at d) all) in
    let parts = and_parts (list_all (λ (g : Typed). has_some g.0) (map (left_at d) all)) (are_parted (map (left_at d) all)) h in
    let rest = and_parts (has_some (drop d (pieces f.name))) (list_all (λ (g : Typed). has_some g.0) (map (left_at d) fs)) parts.0 in
    let value : map tail_of (take count (map (left_at d) all)) ≡ map (left_at (suc d)) (take count all) = ap (map tail_of) (take_map (left_at d) count all) ∙ tails_at d (take count all) in
    first_group name (left_at d f) (map (left_at d) fs) lead rest.1
    ∙ ap₂ (λ (v : List Typed) (l : List Group). (record { name = name; value = v }) ∷ l) value (ap groups (drop_map (left_at d) count all))

-- ---- fewer fields

-- the fields behind some of them
pub have_names-drop : (k : ℕ) (fs : List Typed) → have_names fs ≡ true → have_names (drop k fs) ≡ true
have_names-drop zero fs h = h
have_names-drop (suc k) [] h = h
have_names-drop (suc k) (f ∷ fs) h =
    let parts = and_parts (list_all (λ (g : Typed). has_some g.0) (f ∷ fs)) (are_parted (f ∷ fs)) h in
    let names = and_parts (has_some f.0) (list_all (λ (g : Typed). has_some g.0) fs) parts.0 in
    let parted = and_parts (list_all (λ (g : Typed). parts_before f.0 g.0) fs) (are_parted fs) parts.1 in
    have_names-drop k fs (rw (names.1, parted.1) refl)

pub have_names-drop_at : (d k : ℕ) (fs : List (Named FieldType)) → have_names (map (left_at d) fs) ≡ true → have_names (map (left_at d) (drop k fs)) ≡ true
have_names-drop_at d k fs h = ap have_names (sym (drop_map (left_at d) k fs)) ∙ have_names-drop k (map (left_at d) fs) h

parts_both : (f : Typed) (fs : List Typed) → has_some f.0 ≡ true → list_all (λ (g : Typed). parts_before f.0 g.0) fs ≡ true → list_all (λ (g : Typed). has_some g.0) fs ≡ true
parts_both f [] some h = refl
parts_both ([], k) (g ∷ gs) some h = absurd (false≢true some)
parts_both (n ∷ ns, k) (([], j) ∷ gs) some h = absurd (false≢true h)
parts_both (n ∷ ns, k) ((m ∷ ms, j) ∷ gs) some h = parts_both (n ∷ ns, k) gs some (and_parts (parts_before (n ∷ ns) (m ∷ ms)) (list_all (λ (g : Typed). parts_before (n ∷ ns) g.0) gs) h).1

-- parted fields all have names where the first one has
pub have_names-parted : (f : Typed) (fs : List Typed) → has_some f.0 ≡ true → are_parted (f ∷ fs) ≡ true → have_names (f ∷ fs) ≡ true
have_names-parted f fs some h =
    let parts = and_parts (list_all (λ (g : Typed). parts_before f.0 g.0) fs) (are_parted fs) h in
    rw (some, parts_both f fs some parts.0, parts.0, parts.1) refl

-- and where the first one has none, it is the only one
pub alone : (k : FieldType) (fs : List Typed) → are_parted (([], k) ∷ fs) ≡ true → fs ≡ []
alone k [] h = refl
alone k (g ∷ gs) h = absurd (false≢true h)
