-- A text that is cut into parts, joined, and cut again.
use Rattle.std.proofs.Common.{◌≡◌, ℕ, zero, suc, ◌-◌, List, [], ◌∷◌, ◌++◌, length, drop, Bool, true, false, not, ◌==◌, Option, Some, None, refl, sym, ap, ◌∙◌, subst, append-nil, append_assoc, drop_at, codes}
use Rattle.std.specs.Prelude.{if◌then◌else◌}
use Rattle.std.specs.List.{list_all}
use Rattle.std.proofs.lemmas.Bool.{eqb-true, false≢true, and_parts, and_from}
use Rattle.es_template.specs.Marks.{behind, begins_with, cut, grown, parts_from, parts, behind_marks, joined}
use Rattle.es_template.specs.Tags.{opening, json_opening, is_plain}
use Rattle.es_template.proofs.Cutting.{behind_is, behind-append, none_some, parts_begun, parts_going, parts_later}

abbrev Parts : Type 0
Parts = List (List ℕ)

-- ---- there is a first part

pub record Cut (ps : Parts) : Type 0 where
  pub first : List ℕ
  pub rest : Parts
  pub is : ps ≡ first ∷ rest

grown_cut : (b : ℕ) (ps : Parts) → Cut ps → Cut (grown b ps)
grown_cut b ps c = record { first = b ∷ c.first; rest = c.rest; is = ap (grown b) c.is }

cut_by : (c : Bool) (b : ℕ) (here later : Parts) → Cut later → Cut (if c then [] ∷ here else grown b later)
cut_by true b here later c = record { first = []; rest = here; is = refl }
cut_by false b here later c = grown_cut b later c

cut_from : (mark : List ℕ) (n : ℕ) (text : List ℕ) → Cut (parts_from mark n text)
cut_from mark zero [] = record { first = []; rest = []; is = refl }
cut_from mark (suc n) [] = record { first = []; rest = []; is = refl }
cut_from mark (suc n) (b ∷ bs) = cut_from mark n bs
cut_from mark zero (b ∷ bs) = cut_by (begins_with mark (b ∷ bs)) b (parts_from mark (length mark - 1) bs) (parts_from mark 0 bs) (cut_from mark 0 bs)

pub cut_of : (mark text : List ℕ) → Cut (parts mark text)
unfolding parts
cut_of mark text = cut_from mark 0 text

-- ---- joining

joined_grown : (mark : List ℕ) (b : ℕ) (ps : Parts) → Cut ps → joined mark (grown b ps) ≡ b ∷ joined mark ps
joined_grown mark b ps c = ap (λ qs. joined mark (grown b qs)) c.is ∙ ap (λ qs. b ∷ joined mark qs) (sym c.is)

joined_behind : (mark : List ℕ) (ps : Parts) → Cut ps → joined mark ([] ∷ ps) ≡ mark ++ joined mark ps
joined_behind mark ps c = ap (λ qs. joined mark ([] ∷ qs)) c.is ∙ ap (λ qs. mark ++ joined mark qs) (sym c.is)

joined_by : (m : ℕ) (ms : List ℕ) (b : ℕ) (bs : List ℕ) (here : Option (List ℕ)) → behind (m ∷ ms) (b ∷ bs) ≡ here
    → joined (m ∷ ms) (parts_from (m ∷ ms) 0 bs) ≡ bs → ((rest : List ℕ) → here ≡ Some rest → joined (m ∷ ms) (parts_from (m ∷ ms) 0 rest) ≡ rest)
    → joined (m ∷ ms) (parts_from (m ∷ ms) 0 (b ∷ bs)) ≡ b ∷ bs
joined_by m ms b bs None is later behind_it =
    let step : parts_from (m ∷ ms) 0 (b ∷ bs) ≡ grown b (parts_from (m ∷ ms) 0 bs) = rw is refl in
    ap (joined (m ∷ ms)) step ∙ joined_grown (m ∷ ms) b (parts_from (m ∷ ms) 0 bs) (cut_from (m ∷ ms) 0 bs) ∙ ap (λ l. b ∷ l) later
joined_by m ms b bs (Some rest) is later behind_it =
    ap (joined (m ∷ ms)) (parts_begun m ms b bs rest is) ∙ joined_behind (m ∷ ms) (parts_from (m ∷ ms) 0 rest) (cut_from (m ∷ ms) 0 rest)
    ∙ ap (λ l. (m ∷ ms) ++ l) (behind_it rest refl) ∙ sym (behind_is (m ∷ ms) (b ∷ bs) rest is)

-- the same behind the bytes that are passed over
joined_from : (m : ℕ) (ms : List ℕ) (n : ℕ) (text : List ℕ) → joined (m ∷ ms) (parts_from (m ∷ ms) n text) ≡ drop n text
joined_from m ms zero [] = refl
joined_from m ms (suc n) [] = refl
joined_from m ms (suc n) (b ∷ bs) = joined_from m ms n bs
joined_from m ms zero (b ∷ bs) = joined_by m ms b bs (behind (m ∷ ms) (b ∷ bs)) refl (joined_from m ms 0 bs)
    (λ rest e.
    let whole : bs ≡ ms ++ rest = ap (drop 1) (behind_is (m ∷ ms) (b ∷ bs) rest e) in
    let left : drop (length ms) bs ≡ rest = ap (drop (length ms)) whole ∙ drop_at ms rest (length ms) refl in
    ap (λ l. joined (m ∷ ms) (parts_from (m ∷ ms) 0 l)) (sym left) ∙ ap (joined (m ∷ ms)) (sym (parts_later (m ∷ ms) (length ms) bs)) ∙ joined_from m ms (length ms) bs ∙ left)

pub joined_parts : (m : ℕ) (ms text : List ℕ) → joined (m ∷ ms) (parts (m ∷ ms) text) ≡ text
unfolding parts
joined_parts m ms text = joined_from m ms 0 text

-- ---- a mark behind a text that has not its first byte

abbrev pub lacks : ℕ → List ℕ → Bool
lacks m = list_all (λ b. not (m == b))

differs : (c : Bool) → not c ≡ true → c ≡ false
differs true e = absurd (false≢true e)
differs false e = refl

no_mark : (m : ℕ) (ms : List ℕ) (b : ℕ) (bs : List ℕ) → (m == b) ≡ false → behind (m ∷ ms) (b ∷ bs) ≡ None
no_mark m ms b bs e = rw e refl

mark_here : (mark : List ℕ) (b : ℕ) (bs rest : List ℕ) → behind mark (b ∷ bs) ≡ Some rest → cut mark (b ∷ bs) ≡ Some ([], rest)
mark_here mark b bs rest e = rw e refl

pub cut_clean : (m : ℕ) (ms front rest : List ℕ) → lacks m front ≡ true → cut (m ∷ ms) (front ++ ((m ∷ ms) ++ rest)) ≡ Some (front, rest)
cut_clean m ms [] rest e = mark_here (m ∷ ms) m (ms ++ rest) rest (behind-append (m ∷ ms) rest)
cut_clean m ms (b ∷ bs) rest e =
    let p = and_parts (not (m == b)) (lacks m bs) e in
    let here = no_mark m ms b (bs ++ ((m ∷ ms) ++ rest)) (differs (m == b) p.0) in
    let later = cut_clean m ms bs rest p.1 in
    rw (here, later) refl

-- plain texts have neither brace
open_by : (c : Bool) (b : ℕ) → (123 == b) ≡ c → is_plain b ≡ true → not c ≡ true
open_by true b is e = absurd (false≢true (ap is_plain (eqb-true 123 b is) ∙ e))
open_by false b is e = refl

close_by : (c : Bool) (b : ℕ) → (125 == b) ≡ c → is_plain b ≡ true → not c ≡ true
close_by true b is e = absurd (false≢true (ap is_plain (eqb-true 125 b is) ∙ e))
close_by false b is e = refl

pub plain_lacks_open : (s : List ℕ) → list_all is_plain s ≡ true → lacks 123 s ≡ true
plain_lacks_open [] e = refl
plain_lacks_open (b ∷ bs) e =
    let p = and_parts (is_plain b) (list_all is_plain bs) e in
    and_from (not (123 == b)) (lacks 123 bs) (open_by (123 == b) b refl p.0) (plain_lacks_open bs p.1)

pub plain_lacks_close : (s : List ℕ) → list_all is_plain s ≡ true → lacks 125 s ≡ true
plain_lacks_close [] e = refl
plain_lacks_close (b ∷ bs) e =
    let p = and_parts (is_plain b) (list_all is_plain bs) e in
    and_from (not (125 == b)) (lacks 125 bs) (close_by (125 == b) b refl p.0) (plain_lacks_close bs p.1)

-- ---- parts behind `{{`

abbrev cut_open : List ℕ → Parts
cut_open = parts_from opening 0

first_of : Parts → List ℕ
first_of [] = []
first_of (p ∷ ps) = p

rest_of : Parts → Parts
rest_of [] = []
rest_of (p ∷ ps) = ps

clear_front : (w x p : List ℕ) (qs : Parts) → lacks 123 w ≡ true → cut_open x ≡ p ∷ qs → cut_open (w ++ x) ≡ (w ++ p) ∷ qs
clear_front [] x p qs e is = is
clear_front (b ∷ w) x p qs e is =
    let f = and_parts (not (123 == b)) (lacks 123 w) e in
    parts_going opening b (w ++ x) (no_mark 123 (123 ∷ []) b (w ++ x) (differs (123 == b) f.0)) ∙ ap (grown b) (clear_front w x p qs f.1 is)

unclear_front : (w x p : List ℕ) (qs : Parts) → lacks 123 w ≡ true → cut_open (w ++ x) ≡ (w ++ p) ∷ qs → cut_open x ≡ p ∷ qs
unfolding first_of rest_of
unclear_front w x p qs e is =
    let c = cut_from opening 0 x in
    let same : (w ++ c.first) ∷ c.rest ≡ (w ++ p) ∷ qs = sym (clear_front w x c.first c.rest e c.is) ∙ is in
    let first : c.first ≡ p = sym (drop_at w c.first (length w) refl) ∙ ap (λ l. drop (length w) (first_of l)) same ∙ drop_at w p (length w) refl in
    c.is ∙ (λ k. first k ∷ ap rest_of same k)

-- a part that another follows, and the last part
abbrev Splits : List ℕ → Type 0
Splits p = (t : List ℕ) → cut_open (p ++ (opening ++ t)) ≡ p ∷ cut_open t

abbrev Ends : List ℕ → Type 0
Ends p = cut_open p ≡ p ∷ []

unfoldable pub WellAfter : List ℕ → Parts → Type 0
WellAfter p [] = Ends p
WellAfter p (q ∷ qs) = Splits p × WellAfter q qs

Well : Parts → Type 0
Well [] = Unit {0}
Well (p ∷ qs) = WellAfter p qs

empty_splits : Splits []
empty_splits t = parts_begun 123 (123 ∷ []) 123 (123 ∷ t) t (behind-append opening t)

well_behind : (ps : Parts) → Cut ps → Well ps → Well ([] ∷ ps)
unfolding WellAfter Well
well_behind ps c well = subst (λ qs. Well ([] ∷ qs)) (sym c.is) (empty_splits, subst Well c.is well)

same_by : (c d : Bool) (u t : List ℕ) → (if c then (if d then Some u else None) else None) ≡ None → (if c then (if d then Some t else None) else None) ≡ None
same_by true true u t e = absurd (none_some u (sym e))
same_by true false u t e = refl
same_by false d u t e = refl

-- whether a mark begins here doesn't depend on what stands behind the next one
same_begin : (b : ℕ) (f u t : List ℕ) → behind opening (b ∷ (f ++ (opening ++ u))) ≡ None → behind opening (b ∷ (f ++ (opening ++ t))) ≡ None
same_begin b [] u t e = same_by (123 == b) true (123 ∷ u) (123 ∷ t) e
same_begin b (d ∷ f) u t e = same_by (123 == b) (123 == d) (f ++ (opening ++ u)) (f ++ (opening ++ t)) e

well_grown : (b : ℕ) (bs f : List ℕ) (r : Parts) → joined opening (f ∷ r) ≡ bs → behind opening (b ∷ bs) ≡ None → WellAfter f r → WellAfter (b ∷ f) r
unfolding WellAfter
well_grown b bs f [] whole none well =
    let same : f ≡ bs = sym (append-nil f) ∙ whole in
    parts_going opening b f (ap (λ l. behind opening (b ∷ l)) same ∙ none) ∙ ap (grown b) well
well_grown b bs f (q ∷ qs) whole none well = (
  λ t. parts_going opening b (f ++ (opening ++ t)) (same_begin b f (q ++ behind_marks opening qs) t (ap (λ l. behind opening (b ∷ l)) whole ∙ none)) ∙ ap (grown b) (well.0 t),
  well.1,
)

well_by : (b : ℕ) (bs : List ℕ) (here : Option (List ℕ)) → behind opening (b ∷ bs) ≡ here → Well (parts_from opening 1 bs) → Well (cut_open bs) → Well (cut_open (b ∷ bs))
unfolding Well
well_by b bs (Some rest) is behind_it later =
    let step : cut_open (b ∷ bs) ≡ [] ∷ parts_from opening 1 bs = rw is refl in
    subst Well (sym step) (well_behind (parts_from opening 1 bs) (cut_from opening 1 bs) behind_it)
well_by b bs None is behind_it later =
    let c = cut_from opening 0 bs in
    let whole : joined opening (c.first ∷ c.rest) ≡ bs = ap (joined opening) (sym c.is) ∙ joined_from 123 (123 ∷ []) 0 bs in
    subst Well (sym (parts_going opening b bs is ∙ ap (grown b) c.is)) (well_grown b bs c.first c.rest whole is (subst Well c.is later))

well_from : (n : ℕ) (text : List ℕ) → Well (parts_from opening n text)
unfolding Well WellAfter
well_from zero [] = refl
well_from (suc n) [] = refl
well_from (suc n) (b ∷ bs) = well_from n bs
well_from zero (b ∷ bs) = well_by b bs (behind opening (b ∷ bs)) refl (well_from 1 bs) (well_from 0 bs)

pub well_parts : (text front : List ℕ) (tagged : Parts) → parts opening text ≡ front ∷ tagged → WellAfter front tagged
unfolding parts Well
well_parts text front tagged e = subst Well e (well_from 0 text)

-- parts that are joined are cut again into the same
again : (p : List ℕ) (qs : Parts) → WellAfter p qs → cut_open (joined opening (p ∷ qs)) ≡ p ∷ qs
unfolding WellAfter
again p [] well = ap cut_open (append-nil p) ∙ well
again p (q ∷ qs) well = well.0 (joined opening (q ∷ qs)) ∙ ap (λ l. p ∷ l) (again q qs well.1)

pub cut_again : (p : List ℕ) (qs : Parts) → WellAfter p qs → parts opening (joined opening (p ∷ qs)) ≡ p ∷ qs
unfolding parts
cut_again p qs well = again p qs well

-- a front without `{` may be another one
pub other_front : (w v x : List ℕ) (qs : Parts) → lacks 123 w ≡ true → lacks 123 v ≡ true → WellAfter (w ++ x) qs → WellAfter (v ++ x) qs
unfolding WellAfter
other_front w v x [] e f well = clear_front v x x [] f (unclear_front w x x [] e well)
other_front w v x (q ∷ qs) e f well = (
  λ t.
      let before : cut_open (w ++ (x ++ (opening ++ t))) ≡ (w ++ x) ∷ cut_open t = ap cut_open (sym (append_assoc w x (opening ++ t))) ∙ well.0 t in
      ap cut_open (append_assoc v x (opening ++ t)) ∙ clear_front v (x ++ (opening ++ t)) x (cut_open t) f (unclear_front w (x ++ (opening ++ t)) x (cut_open t) e before),
  well.1,
)

pub parts_json : (rest first : List ℕ) (later : Parts) → parts opening rest ≡ first ∷ later → parts opening (json_opening ++ rest) ≡ [] ∷ ((codes "#toJson}}" ++ first) ∷ later)
unfolding parts
parts_json rest first later e = empty_splits (codes "#toJson}}" ++ rest) ∙ ap (λ l. [] ∷ l) (clear_front (codes "#toJson}}") rest first later refl e)
