-- The fields that are still possible behind a name.
use Rattle.std.proofs.Common.{◌≡◌, ◌<◌, ◌≤◌, ◌+◌, ◌⊎◌, inl, inr, nat_lt, ℕ, zero, suc, List, [], ◌∷◌, ◌++◌, map, length, take, drop, get_or, min, Bool, true, false, ◌&&◌, ◌||◌, not, ◌==◌, nat_eq, if◌then◌else◌, Option, Some, None, Ordering, Less, Equal, Greater, nat_cmp, codes, refl, sym, ap, ap₂, subst, ◌∙◌, add-one, append-nil, append_assoc, arith}
use Rattle.std.specs.List.{list_all, starts_with, AllWithin}
use Rattle.std.specs.List.Sorted.{IsPartitionedBy, IsPartitionPoint}
use Rattle.std.specs.Option.{option_or}
use Rattle.std.specs.Ordering.{is_lt, is_eq, ordering_then}
use Rattle.std.specs.Cmp.Lexicographic.{slice_cmp}
use Rattle.std.specs.Str.{bytes_eq}
use Rattle.std.proofs.lemmas.Bool.{and_parts, false≢true, eqb-true}
use Rattle.std.proofs.lemmas.Bool.Decides.{nat_tests, Decides-eqb}
use Rattle.std.proofs.lemmas.Cmp.{nat_cmp_total, tied_itself, nat_eq_equiv, nat_list_eq_equiv}
use Rattle.std.proofs.lemmas.List.{take-append-drop, drop-drop, drop_more, length-append, length-drop}
use Rattle.std.proofs.lemmas.Slice.Eq.{bytes_eq-Decides}
use Rattle.es_tree.specs.declared.tree.Named.{Named}
use Rattle.es_value.specs.declared.kinds.FieldType.{FieldType}
use Rattle.es_mapping.specs.Paths.{grown, pieces, path_cmp, comes_before, are_rising_after, are_rising}
use Rattle.es_mapping.specs.Possible.{byte_cmp, left_from, field_left}
use Rattle.es_mapping.proofs.Pieces.{Cut, cut_of, before_all, not_back, differs, after, are_ordered, are_ordered-rising}
use Rattle.es_mapping.proofs.Apart.{kept_between}

-- ---- the order of paths, byte by byte

abbrev piece_cmp : List ℕ → List ℕ → Ordering
piece_cmp = slice_cmp nat_cmp

same_bytes : (a b : ℕ) → (a == b) ≡ true → nat_cmp a b ≡ Equal
same_bytes a b e = ap (λ n. nat_cmp a n) (sym (eqb-true a b e)) ∙ tied_itself nat_cmp_total a

apart_bytes : (a b : ℕ) → (a == b) ≡ false → is_eq (nat_cmp a b) ≡ false
apart_bytes a b e = by (nat_lt a b) (a == b) e
  where
    by : (l s : Bool) → s ≡ false → is_eq (if l then Less else (if s then Equal else Greater)) ≡ false
    by true s h = refl
    by false true h = absurd (false≢true (sym h))
    by false false h = refl

first_decides : (o p q : Ordering) → is_eq o ≡ false → ordering_then (ordering_then o p) q ≡ o
first_decides Less p q h = refl
first_decides Equal p q h = absurd (false≢true (sym h))
first_decides Greater p q h = refl

not_both : {A : Type 0} (b : Bool) → b ≡ true → b ≡ false → A
not_both b h k = absurd (false≢true (sym k ∙ h))

pieces_step : (d e s : Bool) (a b : ℕ) (ps qs : List (List ℕ)) → Cut ps → Cut qs → (a == 46) ≡ d → (b == 46) ≡ e → (a == b) ≡ s
    → slice_cmp piece_cmp (if d then [] ∷ ps else grown a ps) (if e then [] ∷ qs else grown b qs) ≡ (if s then slice_cmp piece_cmp ps qs else (if d then Less else (if e then Greater else nat_cmp a b)))
pieces_step true true true a b ps qs cut cut' da db s = refl
pieces_step true true false a b ps qs cut cut' da db s = not_both (a == b) ((Decides-eqb a b).1 (eqb-true a 46 da ∙ sym (eqb-true b 46 db))) s
pieces_step true false true a b ps qs cut cut' da db s = not_both (b == 46) (ap (λ n. n == 46) (sym (eqb-true a b s)) ∙ da) db
pieces_step true false false a b ps qs cut cut' da db s = ap (λ l. slice_cmp piece_cmp ([] ∷ ps) (grown b l)) cut'.is
pieces_step false true true a b ps qs cut cut' da db s = not_both (a == 46) (ap (λ n. n == 46) (eqb-true a b s) ∙ db) da
pieces_step false true false a b ps qs cut cut' da db s = ap (λ l. slice_cmp piece_cmp (grown a l) ([] ∷ qs)) cut.is
pieces_step false false true a b ps qs cut cut' da db s =
    ap₂ (λ l m. slice_cmp piece_cmp (grown a l) (grown b m)) cut.is cut'.is
    ∙ ap (λ o. ordering_then (ordering_then o (piece_cmp cut.first cut'.first)) (slice_cmp piece_cmp cut.rest cut'.rest)) (same_bytes a b s)
    ∙ sym (ap₂ (λ l m. slice_cmp piece_cmp l m) cut.is cut'.is)
pieces_step false false false a b ps qs cut cut' da db s =
    ap₂ (λ l m. slice_cmp piece_cmp (grown a l) (grown b m)) cut.is cut'.is
    ∙ first_decides (nat_cmp a b) (piece_cmp cut.first cut'.first) (slice_cmp piece_cmp cut.rest cut'.rest) (apart_bytes a b s)

step : (a b : ℕ) (x y : List ℕ) → path_cmp (a ∷ x) (b ∷ y) ≡ (if a == b then path_cmp x y else byte_cmp a b)
unfolding path_cmp
step a b x y = pieces_step (a == 46) (b == 46) (a == b) a b (pieces x) (pieces y) (cut_of x) (cut_of y) refl refl refl

pub step_same : (a b : ℕ) (x y : List ℕ) → (a == b) ≡ true → path_cmp (a ∷ x) (b ∷ y) ≡ path_cmp x y
step_same a b x y e = step a b x y ∙ ap (λ s. if s then path_cmp x y else byte_cmp a b) e

pub step_apart : (a b : ℕ) (x y : List ℕ) → (a == b) ≡ false → path_cmp (a ∷ x) (b ∷ y) ≡ byte_cmp a b
step_apart a b x y e = step a b x y ∙ ap (λ s. if s then path_cmp x y else byte_cmp a b) e

none_left : (d : Bool) (b : ℕ) (qs : List (List ℕ)) → Cut qs → slice_cmp piece_cmp ([] ∷ []) (if d then [] ∷ qs else grown b qs) ≡ Less
none_left true b qs cut = ap (λ l. slice_cmp piece_cmp ([] ∷ []) ([] ∷ l)) cut.is
none_left false b qs cut = ap (λ l. slice_cmp piece_cmp ([] ∷ []) (grown b l)) cut.is

more_left : (d : Bool) (a : ℕ) (ps : List (List ℕ)) → Cut ps → slice_cmp piece_cmp (if d then [] ∷ ps else grown a ps) ([] ∷ []) ≡ Greater
more_left true a ps cut = ap (λ l. slice_cmp piece_cmp ([] ∷ l) ([] ∷ [])) cut.is
more_left false a ps cut = ap (λ l. slice_cmp piece_cmp (grown a l) ([] ∷ [])) cut.is

path_cmp-ended : (b : ℕ) (y : List ℕ) → path_cmp [] (b ∷ y) ≡ Less
unfolding path_cmp
path_cmp-ended b y = none_left (b == 46) b (pieces y) (cut_of y)

path_cmp-longer : (a : ℕ) (x : List ℕ) → path_cmp (a ∷ x) [] ≡ Greater
unfolding path_cmp
path_cmp-longer a x = more_left (a == 46) a (pieces x) (cut_of x)

nothing_left : path_cmp [] [] ≡ Equal
unfolding path_cmp
nothing_left = refl

nat_less : (m n : ℕ) → m < n → nat_cmp m n ≡ Less
nat_less m n h = grind (arith, nat_tests)

nat_more : (m n : ℕ) → n < m → nat_cmp m n ≡ Greater
nat_more m n h = grind (arith, nat_tests)

-- where one of both has ended, their lengths decide
pub ended_cmp : (x y : List ℕ) (m n : ℕ) → (x ≡ []) ⊎ (y ≡ []) → (length x + n ≡ length y + m) → path_cmp x y ≡ nat_cmp m n
ended_cmp [] [] m n h e = nothing_left ∙ sym (ap (λ k. nat_cmp m k) (omega arith) ∙ tied_itself nat_cmp_total m)
ended_cmp [] (b ∷ y) m n h e = path_cmp-ended b y ∙ sym (nat_less m n (omega arith))
ended_cmp (a ∷ x) [] m n h e = path_cmp-longer a x ∙ sym (nat_more m n (omega arith))
ended_cmp (a ∷ x) (b ∷ y) m n (inl h) e = absurd (cc)
ended_cmp (a ∷ x) (b ∷ y) m n (inr h) e = absurd (cc)

-- ---- the loop over bytes

unequal_bytes : (a b : ℕ) → (a ≡ b → ⊥) → (a == b) ≡ false
unequal_bytes a b n = by (a == b) refl
  where
    by : (s : Bool) → (a == b) ≡ s → s ≡ false
    by true e = absurd (n ((Decides-eqb a b).0 e))
    by false e = refl

pub compared_apart : (x y : List ℕ) (k : ℕ) → k < length x → k < length y → (get_or x k 0 ≡ get_or y k 0 → ⊥) → path_cmp (drop k x) (drop k y) ≡ byte_cmp (get_or x k 0) (get_or y k 0)
compared_apart x y k h l n = ap₂ path_cmp (drop_more x k 0 h) (drop_more y k 0 l) ∙ step_apart (get_or x k 0) (get_or y k 0) (drop (k + 1) x) (drop (k + 1) y) (unequal_bytes (get_or x k 0) (get_or y k 0) n)

pub compared_same : (x y : List ℕ) (k : ℕ) → k < length x → k < length y → get_or x k 0 ≡ get_or y k 0 → path_cmp (drop k x) (drop k y) ≡ path_cmp (drop (k + 1) x) (drop (k + 1) y)
compared_same x y k h l e = ap₂ path_cmp (drop_more x k 0 h) (drop_more y k 0 l) ∙ step_same (get_or x k 0) (get_or y k 0) (drop (k + 1) x) (drop (k + 1) y) ((Decides-eqb (get_or x k 0) (get_or y k 0)).1 e)

ended_from : (x y : List ℕ) (k : ℕ) → k ≡ min (length x) (length y) → (drop k x ≡ []) ⊎ (drop k y ≡ [])
ended_from [] y k h = inl (drop_nil k)
  where
    drop_nil : (n : ℕ) → ◌≡◌ {A = List ℕ} (drop n []) []
    drop_nil zero = refl
    drop_nil (suc n) = refl
ended_from (a ∷ x) [] k h = inr (drop_nil k)
  where
    drop_nil : (n : ℕ) → ◌≡◌ {A = List ℕ} (drop n []) []
    drop_nil zero = refl
    drop_nil (suc n) = refl
ended_from (a ∷ x) (b ∷ y) zero h = absurd (omega arith)
ended_from (a ∷ x) (b ∷ y) (suc k) h = ended_from x y k (omega arith)

pub compared_ended : (x y : List ℕ) (k : ℕ) → k ≡ min (length x) (length y) → path_cmp (drop k x) (drop k y) ≡ nat_cmp (length x) (length y)
compared_ended x y k h = ended_cmp (drop k x) (drop k y) (length x) (length y) (ended_from x y k h) (omega (arith, length-drop k x, length-drop k y))

-- paths that begin alike compare as what is left of them
path_cmp-front : (front x y : List ℕ) → path_cmp (front ++ x) (front ++ y) ≡ path_cmp x y
path_cmp-front [] x y = refl
path_cmp-front (a ∷ front) x y = step_same a a (front ++ x) (front ++ y) (nat_eq_equiv.refl a) ∙ path_cmp-front front x y

pub before_longer : (name text : List ℕ) → comes_before name (name ++ 46 ∷ text) ≡ true
before_longer name text = ap is_lt (ap (λ l. path_cmp l (name ++ 46 ∷ text)) (sym (append-nil name)) ∙ path_cmp-front name [] (46 ∷ text) ∙ path_cmp-ended 46 text)

-- ---- texts that begin with another

begun : (front y : List ℕ) → starts_with nat_eq y front ≡ true → y ≡ front ++ drop (length front) y
begun [] y h = refl
begun (a ∷ front) [] h = absurd (false≢true h)
begun (a ∷ front) (b ∷ y) h =
    let parts = and_parts (a == b) (starts_with nat_eq y front) h in
    ap₂ (λ n l. n ∷ l) (sym (eqb-true a b parts.0)) (begun front y parts.1)

pub long_enough : (front y : List ℕ) → starts_with nat_eq y front ≡ true → length front ≤ length y
long_enough [] y h = omega arith
long_enough (a ∷ front) [] h = absurd (false≢true h)
long_enough (a ∷ front) (b ∷ y) h = let more = long_enough front y (and_parts (a == b) (starts_with nat_eq y front) h).1 in omega arith

equal_behind : (front y text : List ℕ) → starts_with nat_eq y front ≡ true → bytes_eq y (front ++ text) ≡ bytes_eq (drop (length front) y) text
equal_behind [] y text h = refl
equal_behind (a ∷ front) [] text h = absurd (false≢true h)
equal_behind (a ∷ front) (b ∷ y) text h =
    let parts = and_parts (a == b) (starts_with nat_eq y front) h in
    ap (λ s. s && bytes_eq y (front ++ text)) (nat_eq_equiv.symm b a ∙ parts.0) ∙ equal_behind front y text parts.1

begins_equal : (front y text : List ℕ) → bytes_eq y (front ++ text) ≡ true → starts_with nat_eq y front ≡ true
begins_equal [] y text h = refl
begins_equal (a ∷ front) [] text h = absurd (false≢true h)
begins_equal (a ∷ front) (b ∷ y) text h =
    let parts = and_parts (b == a) (bytes_eq y (front ++ text)) h in
    rw (nat_eq_equiv.symm a b ∙ parts.0, begins_equal front y text parts.1)

no_prefix : (name y : List ℕ) → length y ≤ length name → starts_with nat_eq y (name ++ 46 ∷ []) ≡ false
no_prefix name y h = by (starts_with nat_eq y (name ++ 46 ∷ [])) refl
  where
    by : (b : Bool) → starts_with nat_eq y (name ++ 46 ∷ []) ≡ b → b ≡ false
    by true e = absurd (omega (arith, long_enough (name ++ 46 ∷ []) y e, length-append name (46 ∷ [])))
    by false e = refl

-- what the code tests: the length, the dot, and the bytes before it
pub goes_on_short : (text name : List ℕ) → length text ≤ length name → false ≡ starts_with nat_eq text (name ++ 46 ∷ [])
goes_on_short text name h = sym (no_prefix name text h)

pub goes_on_long : (text name : List ℕ) → length name < length text → ((get_or text (length name) 0 == 46) && starts_with nat_eq text name) ≡ starts_with nat_eq text (name ++ 46 ∷ [])
goes_on_long [] name h = absurd (omega arith)
goes_on_long (b ∷ text) [] h = and_true (b == 46) ∙ nat_eq_equiv.symm b 46 ∙ sym (and_true (46 == b))
  where
    and_true : (c : Bool) → (c && true) ≡ c
    and_true true = refl
    and_true false = refl
goes_on_long (b ∷ text) (a ∷ name) h = swap_and (get_or text (length name) 0 == 46) (a == b) (starts_with nat_eq text name) ∙ ap (λ c. (a == b) && c) (goes_on_long text name (omega arith))
  where
    swap_and : (p q r : Bool) → (p && (q && r)) ≡ (q && (p && r))
    swap_and true q r = refl
    swap_and false true r = refl
    swap_and false false r = refl

pub goes_on_dot : (text name : List ℕ) → length name < length text → get_or text (length name) 0 ≡ 46 → starts_with nat_eq text name ≡ starts_with nat_eq text (name ++ 46 ∷ [])
goes_on_dot text name h e = ap (λ b. b && starts_with nat_eq text name) (sym ((Decides-eqb (get_or text (length name) 0) 46).1 e)) ∙ goes_on_long text name h

pub goes_on_no_dot : (text name : List ℕ) → length name < length text → (get_or text (length name) 0 ≡ 46 → ⊥) → false ≡ starts_with nat_eq text (name ++ 46 ∷ [])
goes_on_no_dot text name h n = by (get_or text (length name) 0 == 46) refl ∙ goes_on_long text name h
  where
    by : (b : Bool) → (get_or text (length name) 0 == 46) ≡ b → false ≡ (b && starts_with nat_eq text name)
    by true e = absurd (n ((Decides-eqb (get_or text (length name) 0) 46).0 e))
    by false e = refl

-- ---- fields in order

all_front : {X : Type 0} (p : X → Bool) (xs ys : List X) → list_all p (xs ++ ys) ≡ true → list_all p xs ≡ true
all_front p [] ys h = refl
all_front p (x ∷ xs) ys h = let parts = and_parts (p x) (list_all p (xs ++ ys)) h in rw (parts.0, all_front p xs ys parts.1)

at_all : {X : Type 0} (p : X → Bool) (xs : List X) → list_all p xs ≡ true → (k : ℕ) (d : X) → k < length xs → p (get_or xs k d) ≡ true
at_all p [] h k d below = absurd (omega arith)
at_all p (x ∷ xs) h zero d below = (and_parts (p x) (list_all p xs) h).0
at_all p (x ∷ xs) h (suc k) d below = at_all p xs (and_parts (p x) (list_all p xs) h).1 k d (omega arith)

all_mapped : {X Y : Type 0} (p : Y → Bool) (f : X → Y) (xs : List X) → list_all p (map f xs) ≡ true → list_all (λ x. p (f x)) xs ≡ true
all_mapped p f [] h = refl
all_mapped p f (x ∷ xs) h = let parts = and_parts (p (f x)) (list_all p (map f xs)) h in rw (parts.0, all_mapped p f xs parts.1)

ordered_at : (from : ℕ) (fs : List (Named FieldType)) → are_ordered (map (left_from from) fs) ≡ true → (i j : ℕ) (d : Named FieldType) → i < j → j < length fs → comes_before (left_from from (get_or fs i d)) (left_from from (get_or fs j d)) ≡ true
ordered_at from [] up i j d l m = absurd (omega arith)
ordered_at from (f ∷ fs) up zero zero d l m = absurd (omega arith)
ordered_at from (f ∷ fs) up (suc i) zero d l m = absurd (omega arith)
ordered_at from (f ∷ fs) up zero (suc j) d l m = at_all (λ g. comes_before (left_from from f) (left_from from g)) fs (all_mapped (comes_before (left_from from f)) (left_from from) fs (and_parts _ _ up).0) j d (omega arith)
ordered_at from (f ∷ fs) up (suc i) (suc j) d l m = ordered_at from fs (and_parts _ _ up).1 i j d (omega arith) (omega arith)

rising_tail : (x : List ℕ) (xs : List (List ℕ)) → are_rising (x ∷ xs) ≡ true → are_rising xs ≡ true
rising_tail x [] up = refl
rising_tail x (y ∷ ys) up = (and_parts (comes_before x y) (are_rising_after y ys) up).1

pub rising-drop : (from n : ℕ) (fs : List (Named FieldType)) → are_rising (map (left_from from) fs) ≡ true → are_rising (map (left_from from) (drop n fs)) ≡ true
rising-drop from zero fs up = up
rising-drop from (suc n) [] up = refl
rising-drop from (suc n) (f ∷ fs) up = rising-drop from n fs (rising_tail (left_from from f) (map (left_from from) fs) up)

rising_after-take : (from n : ℕ) (x : List ℕ) (fs : List (Named FieldType)) → are_rising_after x (map (left_from from) fs) ≡ true → are_rising_after x (map (left_from from) (take n fs)) ≡ true
rising_after-take from zero x fs up = refl
rising_after-take from (suc n) x [] up = refl
rising_after-take from (suc n) x (f ∷ fs) up =
    let parts = and_parts (comes_before x (left_from from f)) (are_rising_after (left_from from f) (map (left_from from) fs)) up in
    rw (parts.0, rising_after-take from n (left_from from f) fs parts.1)

pub rising-take : (from n : ℕ) (fs : List (Named FieldType)) → are_rising (map (left_from from) fs) ≡ true → are_rising (map (left_from from) (take n fs)) ≡ true
rising-take from zero fs up = refl
rising-take from (suc n) [] up = refl
rising-take from (suc n) (f ∷ fs) up = rising_after-take from n (left_from from f) fs up

same_or_less : (i j : ℕ) → i ≤ j → (i ≡ j) ⊎ (i < j)
same_or_less i j h = by (nat_lt i j) refl
  where
    by : (b : Bool) → nat_lt i j ≡ b → (i ≡ j) ⊎ (i < j)
    by true e = inr (grind (arith, nat_tests))
    by false e = inl (grind (arith, nat_tests))

-- where the name comes before a field, it comes before those behind it
pub parted_after : (from : ℕ) (name : List ℕ) (fs : List (Named FieldType)) → are_rising (map (left_from from) fs) ≡ true → IsPartitionedBy (λ f. not (comes_before name (left_from from f))) fs
parted_after from name fs up i j d l m h =
    elim (same_or_less i j l) as (λ _. not (comes_before name (left_from from (get_or fs i d))) ≡ true) [
      | inl e ↦ subst (λ k. not (comes_before name (left_from from (get_or fs k d))) ≡ true) (sym e) h
      | inr less ↦ by (comes_before name (left_from from (get_or fs i d))) refl (ordered_at from fs (are_ordered-rising _ up) i j d less m)
    ]
  where
    by : (b : Bool) → comes_before name (left_from from (get_or fs i d)) ≡ b → comes_before (left_from from (get_or fs i d)) (left_from from (get_or fs j d)) ≡ true → not b ≡ true
    by true e next = absurd (false≢true (ap not (sym (before_all name (left_from from (get_or fs i d)) (left_from from (get_or fs j d)) e next)) ∙ h))
    by false e next = refl

or_left : (a b : Bool) → a ≡ false → (a || b) ≡ true → b ≡ true
or_left true b h k = absurd (false≢true (sym h))
or_left false b h k = k

or_right : (a b : Bool) → b ≡ true → (a || b) ≡ true
or_right true b h = refl
or_right false b h = h

-- behind a name, those that go on behind it stand first
pub parted_on : (from : ℕ) (name : List ℕ) (fs : List (Named FieldType)) → are_rising (map (left_from from) fs) ≡ true → list_all (λ f. comes_before name (left_from from f)) fs ≡ true → IsPartitionedBy (λ f. starts_with nat_eq (left_from from f) (name ++ 46 ∷ [])) fs
parted_on from name fs up all i j d l m h =
    elim (same_or_less i j l) as (λ _. starts_with nat_eq (left_from from (get_or fs i d)) (name ++ 46 ∷ []) ≡ true) [
      | inl e ↦ subst (λ k. starts_with nat_eq (left_from from (get_or fs k d)) (name ++ 46 ∷ []) ≡ true) (sym e) h
      | inr less ↦
          let y = left_from from (get_or fs i d) in
          let z = left_from from (get_or fs j d) in
          let here : comes_before name y ≡ true = at_all (λ f. comes_before name (left_from from f)) fs all i d (omega arith) in
          let next : comes_before y z ≡ true = ordered_at from fs (are_ordered-rising _ up) i j d less m in
          or_left (bytes_eq name y) (starts_with nat_eq y (name ++ 46 ∷ [])) (differs name y here)
          (kept_between name y z (not_back name y here) (not_back y z next) (or_right (bytes_eq name z) (starts_with nat_eq z (name ++ 46 ∷ [])) h))
    ]

-- ---- from a partition point

pub all-take : {X : Type 0} (p : X → Bool) (xs : List X) (n : ℕ) → n ≤ length xs → AllWithin (λ x. p x ≡ true) xs 0 n → list_all p (take n xs) ≡ true
all-take p xs zero h all = refl
all-take p [] (suc n) h all = refl
all-take p (x ∷ xs) (suc n) h all = rw (all 0 x (omega arith) (omega arith), all-take p xs n (omega arith) (λ k d low below. all (suc k) d (omega arith) (omega arith)))

pub all-drop : {X : Type 0} (p : X → Bool) (xs : List X) (n : ℕ) → AllWithin (λ x. p x ≡ false) xs n (length xs) → list_all (λ x. not (p x)) (drop n xs) ≡ true
all-drop p [] zero all = refl
all-drop p [] (suc n) all = refl
all-drop p (x ∷ xs) zero all = rw (all 0 x (omega arith) (omega arith), all-drop p xs zero (λ k d low below. all (suc k) d (omega arith) (omega arith)))
all-drop p (x ∷ xs) (suc n) all = all-drop p xs n (λ k d low below. all (suc k) d (omega arith) (omega arith))

not_not : (b : Bool) → not (not b) ≡ b
not_not true = refl
not_not false = refl

pub all_not_not : {X : Type 0} (p : X → Bool) (xs : List X) → list_all (λ x. not (not (p x))) xs ≡ true → list_all p xs ≡ true
all_not_not p [] h = refl
all_not_not p (x ∷ xs) h = let parts = and_parts (not (not (p x))) (list_all (λ x. not (not (p x))) xs) h in rw (sym (not_not (p x)) ∙ parts.0, all_not_not p xs parts.1)

-- ---- the field that is left

field_left-append : (from : ℕ) (text : List ℕ) (fs gs : List (Named FieldType)) → field_left from text (fs ++ gs) ≡ option_or (field_left from text fs) (field_left from text gs)
field_left-append from text [] gs = refl
field_left-append from text (f ∷ fs) gs = by (bytes_eq (left_from from f) text) (field_left-append from text fs gs)
  where
    by : (b : Bool) → field_left from text (fs ++ gs) ≡ option_or (field_left from text fs) (field_left from text gs)
        → (if b then Some f else field_left from text (fs ++ gs)) ≡ option_or (if b then Some f else field_left from text fs) (field_left from text gs)
    by true e = refl
    by false e = e

-- where none that the test holds on has it left, none has
field_left-none : (p : Named FieldType → Bool) (from : ℕ) (text : List ℕ) (fs : List (Named FieldType)) → list_all p fs ≡ true → ((f : Named FieldType) → p f ≡ true → bytes_eq (left_from from f) text ≡ false) → field_left from text fs ≡ None
field_left-none p from text [] all differ = refl
field_left-none p from text (f ∷ fs) all differ =
    let parts = and_parts (p f) (list_all p fs) all in
    rw (differ f parts.0) (field_left-none p from text fs parts.1 differ)

or_none : {X : Type 0} (o : Option X) → option_or o None ≡ o
or_none None = refl
or_none (Some x) = refl

-- an equal text is on the same side of the name
not_equal : (b c : Bool) → (b ≡ true → c ≡ true) → c ≡ false → b ≡ false
not_equal true c h k = sym (h refl) ∙ k
not_equal false c h k = refl

not_true_is : (b : Bool) → not b ≡ true → b ≡ false
not_true_is true h = sym h
not_true_is false h = refl

-- fields that don't come after the name aren't below it
pub none_before : (from n : ℕ) (name text : List ℕ) (fs : List (Named FieldType)) → list_all (λ f. not (comes_before name (left_from from f))) (take n fs) ≡ true → field_left from (name ++ 46 ∷ text) (drop n fs) ≡ field_left from (name ++ 46 ∷ text) fs
none_before from n name text fs all =
    let none = field_left-none (λ f. not (comes_before name (left_from from f))) from (name ++ 46 ∷ text) (take n fs) all
    (λ f h. not_equal (bytes_eq (left_from from f) (name ++ 46 ∷ text)) (comes_before name (left_from from f))
    (λ e. ap (comes_before name) ((bytes_eq-Decides (left_from from f) (name ++ 46 ∷ text)).0 e) ∙ before_longer name text) (not_true_is (comes_before name (left_from from f)) h)) in
    sym (ap (field_left from (name ++ 46 ∷ text)) (sym (take-append-drop n fs)) ∙ field_left-append from (name ++ 46 ∷ text) (take n fs) (drop n fs) ∙ ap (λ o. option_or o (field_left from (name ++ 46 ∷ text) (drop n fs))) none)

-- and those that do aren't at it
pub none_after : (from n : ℕ) (name : List ℕ) (fs : List (Named FieldType)) → list_all (λ f. comes_before name (left_from from f)) (drop n fs) ≡ true → field_left from name (take n fs) ≡ field_left from name fs
none_after from n name fs all =
    let none = field_left-none (λ f. comes_before name (left_from from f)) from name (drop n fs) all (λ f h. nat_list_eq_equiv.symm (left_from from f) name ∙ differs name (left_from from f) h) in
    sym (ap (field_left from name) (sym (take-append-drop n fs)) ∙ field_left-append from name (take n fs) (drop n fs) ∙ ap (option_or (field_left from name (take n fs))) none ∙ or_none (field_left from name (take n fs)))

-- those behind the last one below the name aren't below it
pub none_behind : (from n : ℕ) (name text : List ℕ) (fs : List (Named FieldType)) → list_all (λ f. not (starts_with nat_eq (left_from from f) (name ++ 46 ∷ []))) (drop n fs) ≡ true → field_left from (name ++ 46 ∷ text) (take n fs) ≡ field_left from (name ++ 46 ∷ text) fs
none_behind from n name text fs all =
    let none = field_left-none (λ f. not (starts_with nat_eq (left_from from f) (name ++ 46 ∷ []))) from (name ++ 46 ∷ text) (drop n fs) all
    (λ f h. not_equal (bytes_eq (left_from from f) (name ++ 46 ∷ text)) (starts_with nat_eq (left_from from f) (name ++ 46 ∷ []))
    (λ e. begins_equal (name ++ 46 ∷ []) (left_from from f) text (ap (bytes_eq (left_from from f)) (append_assoc name (46 ∷ []) text) ∙ e)) (not_true_is (starts_with nat_eq (left_from from f) (name ++ 46 ∷ [])) h)) in
    sym (ap (field_left from (name ++ 46 ∷ text)) (sym (take-append-drop n fs)) ∙ field_left-append from (name ++ 46 ∷ text) (take n fs) (drop n fs) ∙ ap (option_or (field_left from (name ++ 46 ∷ text) (take n fs))) none ∙ or_none (field_left from (name ++ 46 ∷ text) (take n fs)))

-- ---- the last field that doesn't come after the name

before_last : (from : ℕ) (front : List (Named FieldType)) (last : Named FieldType) → are_ordered (map (left_from from) (front ++ last ∷ [])) ≡ true → list_all (λ f. comes_before (left_from from f) (left_from from last)) front ≡ true
before_last from [] last up = refl
before_last from (f ∷ front) last up =
    let parts = and_parts (list_all (comes_before (left_from from f)) (map (left_from from) (front ++ last ∷ []))) (are_ordered (map (left_from from) (front ++ last ∷ []))) up in
    rw (at_end front (all_mapped (comes_before (left_from from f)) (left_from from) (front ++ last ∷ []) parts.0), before_last from front last parts.1)
  where
    at_end : (gs : List (Named FieldType)) → list_all (λ g. comes_before (left_from from f) (left_from from g)) (gs ++ last ∷ []) ≡ true → comes_before (left_from from f) (left_from from last) ≡ true
    at_end [] h = (and_parts (comes_before (left_from from f) (left_from from last)) true h).0
    at_end (g ∷ gs) h = at_end gs (and_parts (comes_before (left_from from f) (left_from from g)) (list_all (λ g. comes_before (left_from from f) (left_from from g)) (gs ++ last ∷ [])) h).1

last_holds : {X : Type 0} (p : X → Bool) (front : List X) (last : X) → list_all p (front ++ last ∷ []) ≡ true → p last ≡ true
last_holds p [] last h = (and_parts (p last) true h).0
last_holds p (x ∷ front) last h = last_holds p front last (and_parts (p x) (list_all p (front ++ last ∷ [])) h).1

one_left : (b : Bool) (f : Named FieldType) → (if b then Some f else None) ≡ (if b then Some f else None)
one_left b f = refl

front_none : (from : ℕ) (name : List ℕ) (fs front : List (Named FieldType)) (last : Named FieldType) → fs ≡ front ++ last ∷ [] → are_rising (map (left_from from) fs) ≡ true
    → ((f : Named FieldType) → comes_before (left_from from f) (left_from from last) ≡ true → bytes_eq (left_from from f) name ≡ false)
    → field_left from name fs ≡ (if bytes_eq (left_from from last) name then Some last else None)
front_none from name fs front last is up differ =
    let all = before_last from front last (are_ordered-rising _ (ap (λ l. are_rising (map (left_from from) l)) (sym is) ∙ up)) in
    ap (field_left from name) is ∙ field_left-append from name front (last ∷ [])
    ∙ ap (λ o. option_or o (field_left from name (last ∷ []))) (field_left-none (λ f. comes_before (left_from from f) (left_from from last)) from name front all differ)

pub last_is : (from : ℕ) (name : List ℕ) (fs front : List (Named FieldType)) (last : Named FieldType) → fs ≡ front ++ last ∷ [] → are_rising (map (left_from from) fs) ≡ true
    → bytes_eq (left_from from last) name ≡ true → field_left from name fs ≡ Some last
last_is from name fs front last is up e =
    let same : left_from from last ≡ name = (bytes_eq-Decides (left_from from last) name).0 e in
    front_none from name fs front last is up (λ f h. differs (left_from from f) name (ap (comes_before (left_from from f)) (sym same) ∙ h)) ∙ ap (λ b. if b then Some last else None) e

pub last_is_not : (from : ℕ) (name : List ℕ) (fs front : List (Named FieldType)) (last : Named FieldType) → fs ≡ front ++ last ∷ [] → are_rising (map (left_from from) fs) ≡ true
    → list_all (λ f. not (comes_before name (left_from from f))) fs ≡ true → bytes_eq (left_from from last) name ≡ false → field_left from name fs ≡ None
last_is_not from name fs front last is up all e =
    let behind : comes_before name (left_from from last) ≡ false = not_true_is _ (last_holds (λ f. not (comes_before name (left_from from f))) front last (ap (list_all (λ f. not (comes_before name (left_from from f)))) (sym is) ∙ all)) in
    let before : comes_before (left_from from last) name ≡ true = after name (left_from from last) (nat_list_eq_equiv.symm name (left_from from last) ∙ e) behind in
    front_none from name fs front last is up (λ f h. differs (left_from from f) name (before_all (left_from from f) (left_from from last) name h before)) ∙ ap (λ b. if b then Some last else None) e

-- ---- behind the name and its dot

further : (from : ℕ) (name : List ℕ) (f : Named FieldType) → drop (length (name ++ 46 ∷ [])) (left_from from f) ≡ left_from (from + (length name + 1)) f
further from name f = drop-drop (length (name ++ 46 ∷ [])) from f.name ∙ ap (λ n. drop (from + n) f.name) (length-append name (46 ∷ []))

field_further : (from : ℕ) (name text : List ℕ) (fs : List (Named FieldType)) → list_all (λ f. starts_with nat_eq (left_from from f) (name ++ 46 ∷ [])) fs ≡ true → field_left (from + (length name + 1)) text fs ≡ field_left from (name ++ 46 ∷ text) fs
field_further from name text [] all = refl
field_further from name text (f ∷ fs) all =
    let parts = and_parts (starts_with nat_eq (left_from from f) (name ++ 46 ∷ [])) (list_all (λ f. starts_with nat_eq (left_from from f) (name ++ 46 ∷ [])) fs) all in
    let same : bytes_eq (left_from (from + (length name + 1)) f) text ≡ bytes_eq (left_from from f) (name ++ 46 ∷ text) =
    ap (λ l. bytes_eq l text) (sym (further from name f)) ∙ sym (equal_behind (name ++ 46 ∷ []) (left_from from f) text parts.0) ∙ ap (bytes_eq (left_from from f)) (append_assoc name (46 ∷ []) text) in
    ap₂ (λ (b : Bool) (o : Option (Named FieldType)). if b then Some f else o) same (field_further from name text fs parts.1)

before_further : (from : ℕ) (name : List ℕ) (f g : Named FieldType) → starts_with nat_eq (left_from from f) (name ++ 46 ∷ []) ≡ true → starts_with nat_eq (left_from from g) (name ++ 46 ∷ []) ≡ true
    → comes_before (left_from from f) (left_from from g) ≡ comes_before (left_from (from + (length name + 1)) f) (left_from (from + (length name + 1)) g)
before_further from name f g hf hg =
    let front = name ++ 46 ∷ [] in
    ap is_lt (ap₂ path_cmp (begun front (left_from from f) hf) (begun front (left_from from g) hg)
    ∙ path_cmp-front front (drop (length front) (left_from from f)) (drop (length front) (left_from from g)) ∙ ap₂ path_cmp (further from name f) (further from name g))

rising_after-further : (from : ℕ) (name : List ℕ) (f : Named FieldType) (fs : List (Named FieldType)) → starts_with nat_eq (left_from from f) (name ++ 46 ∷ []) ≡ true → list_all (λ f. starts_with nat_eq (left_from from f) (name ++ 46 ∷ [])) fs ≡ true
    → are_rising_after (left_from from f) (map (left_from from) fs) ≡ are_rising_after (left_from (from + (length name + 1)) f) (map (left_from (from + (length name + 1))) fs)
rising_after-further from name f [] here all = refl
rising_after-further from name f (g ∷ gs) here all =
    let parts = and_parts (starts_with nat_eq (left_from from g) (name ++ 46 ∷ [])) (list_all (λ f. starts_with nat_eq (left_from from f) (name ++ 46 ∷ [])) gs) all in
    ap₂ (λ b c. b && c) (before_further from name f g here parts.0) (rising_after-further from name g gs parts.0 parts.1)

rising-further : (from : ℕ) (name : List ℕ) (fs : List (Named FieldType)) → list_all (λ f. starts_with nat_eq (left_from from f) (name ++ 46 ∷ [])) fs ≡ true → are_rising (map (left_from from) fs) ≡ are_rising (map (left_from (from + (length name + 1))) fs)
rising-further from name [] all = refl
rising-further from name (f ∷ fs) all =
    let parts = and_parts (starts_with nat_eq (left_from from f) (name ++ 46 ∷ [])) (list_all (λ f. starts_with nat_eq (left_from from f) (name ++ 46 ∷ [])) fs) all in
    rising_after-further from name f fs parts.0 parts.1

-- the same fields, by the place behind the name
pub field_below : (from place : ℕ) (name text : List ℕ) (fs : List (Named FieldType)) → (fs ≡ []) ⊎ (place ≡ from + (length name + 1)) → list_all (λ f. starts_with nat_eq (left_from from f) (name ++ 46 ∷ [])) fs ≡ true
    → field_left place text fs ≡ field_left from (name ++ 46 ∷ text) fs
field_below from place name text fs (inl e) all = ap (field_left place text) e ∙ sym (ap (field_left from (name ++ 46 ∷ text)) e)
field_below from place name text fs (inr e) all = ap (λ p. field_left p text fs) e ∙ field_further from name text fs all

pub rising_below : (from place : ℕ) (name : List ℕ) (fs : List (Named FieldType)) → (fs ≡ []) ⊎ (place ≡ from + (length name + 1)) → list_all (λ f. starts_with nat_eq (left_from from f) (name ++ 46 ∷ [])) fs ≡ true
    → are_rising (map (left_from from) fs) ≡ true → are_rising (map (left_from place) fs) ≡ true
rising_below from place name fs (inl e) all up = ap (λ l. are_rising (map (left_from place) l)) e
rising_below from place name fs (inr e) all up = ap (λ p. are_rising (map (left_from p) fs)) e ∙ sym (rising-further from name fs all) ∙ up
