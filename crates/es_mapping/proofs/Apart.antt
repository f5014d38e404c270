-- Paths that continue others. In the order of paths those that continue a path stand right behind it.
use Rattle.std.proofs.Common.{◌≡◌, ◌+◌, ◌<◌, ◌≤◌, ℕ, suc, List, [], ◌∷◌, ◌++◌, map, length, drop, get_or, Bool, true, false, ◌&&◌, ◌||◌, not, ◌==◌, nat_eq, if◌then◌else◌, Ordering, Less, Equal, Greater, nat_cmp, codes, refl, sym, ap, ap₂, ◌∙◌, arith}
use Rattle.std.specs.List.{list_all, starts_with, AllByRecursion}
use Rattle.std.specs.Ordering.{is_lt, is_eq, ordering_reverse, ordering_then}
use Rattle.std.specs.Cmp.Lexicographic.{slice_cmp}
use Rattle.std.specs.Str.{bytes_eq}
use Rattle.std.proofs.lemmas.Bool.{and_parts, false≢true, eqb-true}
use Rattle.std.proofs.lemmas.Cmp.{nat_list_cmp_total, nat_list_eq_equiv, nat_eq_equiv, tied_itself}
use Rattle.std.proofs.lemmas.List.{drop_more}
use Rattle.std.proofs.lemmas.Map.Text.{is_eq-slice_cmp}
use Rattle.std.proofs.lemmas.Slice.Eq.{bytes_eq-Decides}
use Rattle.es_tree.specs.declared.tree.Named.{Named}
use Rattle.es_tree.specs.Rising.{name_of}
use Rattle.es_mapping.specs.Paths.{grown, pieces, is_apart, are_apart, path_cmp, comes_before}
use Rattle.es_mapping.specs.Below.{continues, neighbours_apart}
use Rattle.es_mapping.proofs.Pieces.{Cut, cut_of}

-- the pieces at the front are these
abbrev pub begins : List (List ℕ) → List (List ℕ) → Bool
begins [] qs = true
begins (p ∷ ps) [] = false
begins (p ∷ ps) (q ∷ qs) = bytes_eq p q && begins ps qs

-- ---- a text that continues a path begins with its pieces

and_or : (a b c : Bool) → ((a && b) || (a && c)) ≡ (a && (b || c))
and_or true b c = refl
and_or false b c = refl

and_assoc : (a b c : Bool) → ((a && b) && c) ≡ (a && (b && c))
and_assoc true b c = refl
and_assoc false b c = refl

and_last : (a : Bool) → (a && true) ≡ a
and_last true = refl
and_last false = refl

other_way : (b : ℕ) → (b == 46) ≡ false → (46 == b) ≡ false
other_way b e = nat_eq_equiv.symm 46 b ∙ e

begins_none : (d : Bool) (a : ℕ) (parts : List (List ℕ)) → Cut parts → begins (if d then [] ∷ parts else grown a parts) ([] ∷ []) ≡ false
begins_none true a parts cut = ap (λ ps. begins ([] ∷ ps) ([] ∷ [])) cut.is
begins_none false a parts cut = ap (λ ps. begins (grown a ps) ([] ∷ [])) cut.is

begins_first : (d : Bool) (b : ℕ) (parts : List (List ℕ)) → Cut parts → begins ([] ∷ []) (if d then [] ∷ parts else grown b parts) ≡ d
begins_first true b parts cut = refl
begins_first false b parts cut = ap (λ ps. begins ([] ∷ []) (grown b ps)) cut.is

begins_more : (d e : Bool) (a b : ℕ) (ps qs : List (List ℕ)) → Cut ps → Cut qs → (a == 46) ≡ d → (b == 46) ≡ e
    → begins (if d then [] ∷ ps else grown a ps) (if e then [] ∷ qs else grown b qs) ≡ ((a == b) && begins ps qs)
begins_more true true a b ps qs cut cut' da db = rw (eqb-true a 46 da, eqb-true b 46 db) refl
begins_more true false a b ps qs cut cut' da db =
    ap (λ l. begins ([] ∷ ps) (grown b l)) cut'.is ∙ sym (ap (λ c. c && begins ps qs) (ap (λ n. n == b) (eqb-true a 46 da) ∙ other_way b db))
begins_more false true a b ps qs cut cut' da db =
    ap (λ l. begins (grown a l) ([] ∷ qs)) cut.is ∙ sym (ap (λ c. c && begins ps qs) (ap (λ n. a == n) (eqb-true b 46 db) ∙ da))
begins_more false false a b ps qs cut cut' da db =
    ap₂ (λ l m. begins (grown a l) (grown b m)) cut.is cut'.is ∙ and_assoc (a == b) (bytes_eq cut.first cut'.first) (begins cut.rest cut'.rest)
    ∙ sym (ap₂ (λ l m. (a == b) && begins l m) cut.is cut'.is)

pub continues-begins : (x y : List ℕ) → continues x y ≡ begins (pieces x) (pieces y)
continues-begins [] [] = refl
continues-begins [] (b ∷ bs) = and_last (46 == b) ∙ nat_eq_equiv.symm 46 b ∙ sym (begins_first (b == 46) b (pieces bs) (cut_of bs))
continues-begins (a ∷ xs) [] = sym (begins_none (a == 46) a (pieces xs) (cut_of xs))
continues-begins (a ∷ xs) (b ∷ bs) =
    and_or (a == b) (bytes_eq xs bs) (starts_with nat_eq bs (xs ++ codes ".")) ∙ ap (λ c. (a == b) && c) (continues-begins xs bs)
    ∙ sym (begins_more (a == 46) (b == 46) a b (pieces xs) (pieces bs) (cut_of xs) (cut_of bs) refl refl)

-- ---- how the code tests it

and_false : (c s t : Bool) → (c && s) ≡ false → (s ≡ false → t ≡ false) → (c && t) ≡ false
and_false true s t h more = more h
and_false false s t h more = refl

pub continues_not : (x y : List ℕ) → starts_with nat_eq y x ≡ false → continues x y ≡ false
continues_not [] y h = absurd (false≢true (sym h))
continues_not (a ∷ xs) [] h = refl
continues_not (a ∷ xs) (b ∷ bs) h =
    and_or (a == b) (bytes_eq xs bs) (starts_with nat_eq bs (xs ++ codes ".")) ∙ and_false (a == b) (starts_with nat_eq bs xs) (continues xs bs) h (continues_not xs bs)

pub continues_at : (x y : List ℕ) → starts_with nat_eq y x ≡ true → (length y ≡ length x → ⊥) → nat_eq (get_or y (length x) 0) 46 ≡ continues x y
continues_at [] [] h n = absurd (n refl)
continues_at [] (b ∷ bs) h n = nat_eq_equiv.symm b 46 ∙ sym (and_last (46 == b))
continues_at (a ∷ xs) [] h n = absurd (false≢true h)
continues_at (a ∷ xs) (b ∷ bs) h n =
    let parts = and_parts (a == b) (starts_with nat_eq bs xs) h in
    continues_at xs bs parts.1 (λ e. n (ap suc e)) ∙ sym (and_or (a == b) (bytes_eq xs bs) (starts_with nat_eq bs (xs ++ codes ".")) ∙ ap (λ c. c && continues xs bs) parts.0)

-- ---- pieces in order

abbrev piece_cmp : List ℕ → List ℕ → Ordering
piece_cmp = slice_cmp nat_cmp

same_piece : (p q : List ℕ) → bytes_eq p q ≡ true → p ≡ q
same_piece p q e = (bytes_eq-Decides p q).0 e

then_same : (p : List ℕ) (o : Ordering) → ordering_then (piece_cmp p p) o ≡ o
then_same p o = ap (λ c. ordering_then c o) (tied_itself nat_list_cmp_total p)

between_at : (o : Ordering) (p r : List ℕ) (ps rs qs : List (List ℕ)) → piece_cmp p r ≡ o → is_lt (ordering_then (piece_cmp r p) (slice_cmp piece_cmp rs ps)) ≡ false → is_lt (ordering_then (piece_cmp p r) (slice_cmp piece_cmp qs rs)) ≡ false
    → (is_lt (slice_cmp piece_cmp rs ps) ≡ false → is_lt (slice_cmp piece_cmp qs rs) ≡ false → begins ps rs ≡ true) → (bytes_eq p r && begins ps rs) ≡ true
between_at Less p r ps rs qs e h k more = absurd (false≢true (sym k ∙ ap (λ c. is_lt (ordering_then c (slice_cmp piece_cmp qs rs))) e))
between_at Equal p r ps rs qs e h k more =
    let back : piece_cmp r p ≡ Equal = nat_list_cmp_total.antisymm r p ∙ ap ordering_reverse e in
    let same : bytes_eq p r ≡ true = sym (is_eq-slice_cmp p r) ∙ ap is_eq e in
    rw (same, more (ap (λ c. is_lt (ordering_then c (slice_cmp piece_cmp rs ps))) (sym back) ∙ h) (ap (λ c. is_lt (ordering_then c (slice_cmp piece_cmp qs rs))) (sym e) ∙ k))
between_at Greater p r ps rs qs e h k more =
    let back : piece_cmp r p ≡ Less = nat_list_cmp_total.antisymm r p ∙ ap ordering_reverse e in
    absurd (false≢true (sym h ∙ ap (λ c. is_lt (ordering_then c (slice_cmp piece_cmp rs ps))) back))

-- what lies between pieces and others that begin with them begins with them
between : (ps rs qs : List (List ℕ)) → is_lt (slice_cmp piece_cmp rs ps) ≡ false → is_lt (slice_cmp piece_cmp qs rs) ≡ false → begins ps qs ≡ true → begins ps rs ≡ true
between [] rs qs h k b = refl
between (p ∷ ps) [] qs h k b = absurd (false≢true (sym h))
between (p ∷ ps) (r ∷ rs) [] h k b = absurd (false≢true b)
between (p ∷ ps) (r ∷ rs) (q ∷ qs) h k b =
    let parts = and_parts (bytes_eq p q) (begins ps qs) b in
    let same : q ≡ p = sym (same_piece p q parts.0) in
    between_at (piece_cmp p r) p r ps rs qs refl h (ap (λ c. is_lt (ordering_then (piece_cmp c r) (slice_cmp piece_cmp qs rs))) (sym same) ∙ k) (λ h' k'. between ps rs qs h' k' parts.1)

-- pieces that begin others and don't come before them are the others
begins_back : (ps qs : List (List ℕ)) → begins ps qs ≡ true → is_lt (slice_cmp piece_cmp ps qs) ≡ false → begins qs ps ≡ true
begins_back [] [] b h = refl
begins_back [] (q ∷ qs) b h = absurd (false≢true (sym h))
begins_back (p ∷ ps) [] b h = absurd (false≢true b)
begins_back (p ∷ ps) (q ∷ qs) b h =
    let parts = and_parts (bytes_eq p q) (begins ps qs) b in
    let same : q ≡ p = sym (same_piece p q parts.0) in
    let rest : is_lt (slice_cmp piece_cmp ps qs) ≡ false = ap is_lt (sym (ap (λ r. ordering_then (piece_cmp p r) (slice_cmp piece_cmp ps qs)) same ∙ then_same p (slice_cmp piece_cmp ps qs))) ∙ h in
    rw (nat_list_eq_equiv.symm q p ∙ parts.0, begins_back ps qs parts.1 rest)

-- ---- paths in order

pub kept_between : (x y z : List ℕ) → comes_before y x ≡ false → comes_before z y ≡ false → continues x z ≡ true → continues x y ≡ true
unfolding path_cmp
kept_between x y z h k c = continues-begins x y ∙ between (pieces x) (pieces y) (pieces z) h k (sym (continues-begins x z) ∙ c)

continued_back : (x y : List ℕ) → comes_before y x ≡ false → continues y x ≡ true → continues x y ≡ true
unfolding path_cmp
continued_back x y h c = continues-begins x y ∙ begins_back (pieces y) (pieces x) (sym (continues-begins y x) ∙ c) h

apart_by : (a b c : Bool) → (c ≡ true → (a || b) ≡ true) → (not a && (not b && not c)) ≡ not (a || b)
apart_by true b c h = refl
apart_by false true c h = refl
apart_by false false true h = absurd (false≢true (h refl))
apart_by false false false h = refl

or_right_of : (a b : Bool) → b ≡ true → (a || b) ≡ true
or_right_of true b h = refl
or_right_of false b h = h

-- in order, two paths are apart where the later one doesn't continue the earlier one
pub is_apart-ordered : (x y : List ℕ) → comes_before y x ≡ false → is_apart x y ≡ not (continues x y)
is_apart-ordered x y h =
    apart_by (bytes_eq x y) (starts_with nat_eq y (x ++ codes ".")) (starts_with nat_eq x (y ++ codes ".")) (λ c. continued_back x y h (or_right_of (bytes_eq y x) _ c))

-- each path comes before none of those in front of it
abbrev pub Up : List (List ℕ) → Type 0
Up [] = Unit {0}
Up (x ∷ xs) = AllByRecursion (λ y. comes_before y x ≡ false) xs × Up xs

not_where : (a b : Bool) → not a ≡ true → (b ≡ true → a ≡ true) → not b ≡ true
not_where a true h k = sym (ap not (k refl)) ∙ h
not_where a false h k = refl

apart_later : (x y : List ℕ) (zs : List (List ℕ)) → comes_before y x ≡ false → not (continues x y) ≡ true → AllByRecursion (λ z. comes_before z x ≡ false) zs → AllByRecursion (λ z. comes_before z y ≡ false) zs → list_all (is_apart x) zs ≡ true
apart_later x y [] h n up on = refl
apart_later x y (z ∷ zs) h n up on =
    rw (is_apart-ordered x z up.0 ∙ not_where (continues x y) (continues x z) n (kept_between x y z h on.0), apart_later x y zs h n up.1 on.1)

all_first : (b c : Bool) (d e : Bool) → (b ≡ true → c ≡ true → e ≡ true) → d ≡ c → (b && d) ≡ ((b && e) && c)
all_first true true d e h s = s ∙ sym (ap (λ x. x && true) (h refl refl))
all_first true false d e h s = s ∙ sym (none e)
  where
    none : (x : Bool) → (x && false) ≡ false
    none true = refl
    none false = refl
all_first false c d e h s = refl

-- in order, paths are apart where no neighbours continue each other
pub neighbours_apart-Up : (xs : List (List ℕ)) → Up xs → neighbours_apart xs ≡ are_apart xs
neighbours_apart-Up [] up = refl
neighbours_apart-Up (x ∷ []) up = refl
neighbours_apart-Up (x ∷ y ∷ ys) up =
    let rest = neighbours_apart-Up (y ∷ ys) up.1 in
    all_first (not (continues x y)) (are_apart (y ∷ ys)) (neighbours_apart (y ∷ ys)) (list_all (is_apart x) ys) (λ n _. apart_later x y ys up.0.0 n up.0.1 up.1.0) rest
    ∙ ap (λ b. (b && list_all (is_apart x) ys) && are_apart (y ∷ ys)) (sym (is_apart-ordered x y up.0.0))

-- ---- the loop over neighbours

module _ {V : Type 0} where
  pub neighbours_more : (ms : List (Named V)) (k : ℕ) (m n : Named V) → k + 1 < length ms → m ≡ get_or ms k m → n ≡ get_or ms (k + 1) n
      → neighbours_apart (map name_of (drop k ms)) ≡ (not (continues m.name n.name) && neighbours_apart (map name_of (drop (k + 1) ms)))
  neighbours_more ms k m n below here next =
      let first : drop k ms ≡ m ∷ drop (k + 1) ms = drop_more ms k m (omega arith) ∙ ap (λ y. y ∷ drop (k + 1) ms) (sym here) in
      let second : drop (k + 1) ms ≡ n ∷ drop (k + 1 + 1) ms = drop_more ms (k + 1) n below ∙ ap (λ y. y ∷ drop (k + 1 + 1) ms) (sym next) in
      ap (λ l. neighbours_apart (map name_of l)) (first ∙ ap (λ l. m ∷ l) second) ∙ sym (ap (λ l. not (continues m.name n.name) && neighbours_apart (map name_of l)) second)

  pub neighbours_few : (ms : List (Named V)) → length ms ≤ 1 → neighbours_apart (map name_of ms) ≡ true
  neighbours_few [] h = refl
  neighbours_few (m ∷ []) h = refl
  neighbours_few (m ∷ n ∷ ms) h = absurd (omega arith)
