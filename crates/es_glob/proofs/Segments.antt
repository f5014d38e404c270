-- What taking marks off the front of a text keeps.
use Rattle.std.proofs.Common.{◌≡◌, inl, inr, ℕ, List, [], ◌∷◌, Bool, true, false, ◌&&◌, ◌||◌, refl, sym, ap, ◌∙◌}
use Rattle.std.proofs.lemmas.Bool.{and_parts, or_cases, or_left, or_right, true≢false, false≢true}
use Rattle.es_glob.specs.declared.mark.Mark.{Mark}
use Rattle.es_glob.specs.declared.mark.Mark.TheVariants.{Is, One, Any}
use Rattle.es_glob.specs.Patterns.{some_rest, fits_marks, takes, is_run_next}

-- a test that holds of the text holds of some rest of it
pub some_rest_here : (test : List ℕ → Bool) (cs : List ℕ) → test cs ≡ true → some_rest test cs ≡ true
some_rest_here test [] h = h
some_rest_here test (c ∷ cs) h = or_left (test (c ∷ cs)) (some_rest test cs) h

-- where one test at a text gives another behind its first character, so it does for some rest
pub some_rest_behind : (f g : List ℕ → Bool) → f [] ≡ false → ((c : ℕ) (cs : List ℕ) → f (c ∷ cs) ≡ true → g cs ≡ true) → (c : ℕ) (cs : List ℕ) → some_rest f (c ∷ cs) ≡ true → some_rest g cs ≡ true
some_rest_behind f g none next c [] h = elim (or_cases (f (c ∷ [])) (f []) h) [
  | inl here ↦ next c [] here
  | inr end ↦ absurd (false≢true (sym none ∙ end))
]
some_rest_behind f g none next c (d ∷ ds) h = elim (or_cases (f (c ∷ d ∷ ds)) (some_rest f (d ∷ ds)) h) [
  | inl here ↦ or_left (g (d ∷ ds)) (some_rest g ds) (next c (d ∷ ds) here)
  | inr behind ↦ or_right (g (d ∷ ds)) (some_rest g ds) (some_rest_behind f g none next d ds behind)
]

or_or : (a b : Bool) → ((a || b) || b) ≡ (a || b)
or_or true b = refl
or_or false true = refl
or_or false false = refl

-- some rest of some rest is some rest
pub some_rest-some_rest : (test : List ℕ → Bool) (cs : List ℕ) → some_rest (some_rest test) cs ≡ some_rest test cs
some_rest-some_rest test [] = refl
some_rest-some_rest test (c ∷ cs) =
    ap (λ b. (test (c ∷ cs) || some_rest test cs) || b) (some_rest-some_rest test cs) ∙ or_or (test (c ∷ cs)) (some_rest test cs)

-- ---- one mark

pub fits_marks-none : (m : Mark) (ms : List Mark) → is_run_next (m ∷ ms) ≡ false → fits_marks (m ∷ ms) [] ≡ false
fits_marks-none (Is d) ms h = refl
fits_marks-none One ms h = refl
fits_marks-none Any ms h = absurd (true≢false h)

pub fits_marks-one : (m : Mark) (ms : List Mark) (c : ℕ) (cs : List ℕ) → is_run_next (m ∷ ms) ≡ false → fits_marks (m ∷ ms) (c ∷ cs) ≡ (takes m c && fits_marks ms cs)
fits_marks-one (Is d) ms c cs h = refl
fits_marks-one One ms c cs h = refl
fits_marks-one Any ms c cs h = absurd (true≢false h)

-- where the marks fit some rest, those behind the first fit some rest behind the first character
pub later_behind : (m : Mark) (ms : List Mark) (c : ℕ) (cs : List ℕ) → is_run_next (m ∷ ms) ≡ false → some_rest (fits_marks (m ∷ ms)) (c ∷ cs) ≡ true → some_rest (fits_marks ms) cs ≡ true
later_behind m ms c cs h =
    some_rest_behind (fits_marks (m ∷ ms)) (fits_marks ms) (fits_marks-none m ms h) (λ d ds e. (and_parts (takes m d) (fits_marks ms ds) (sym (fits_marks-one m ms d ds h) ∙ e)).1) c cs

-- ---- a segment

same_bool : (a b : Bool) → (a ≡ true → b ≡ true) → (b ≡ true → a ≡ true) → a ≡ b
same_bool true true f g = refl
same_bool true false f g = sym (f refl)
same_bool false true f g = g refl
same_bool false false f g = refl

-- The leftmost place is as good as any later one: where the marks up to the next run fit at the front, some rest fits as what is left behind them does.
pub leftmost_suffices : (ms : List Mark) (cs : List ℕ) (left : List Mark) (rest : List ℕ) → fits_marks ms cs ≡ fits_marks (Any ∷ left) rest → (some_rest (fits_marks ms) cs ≡ true → some_rest (fits_marks (Any ∷ left)) rest ≡ true) → some_rest (fits_marks ms) cs ≡ fits_marks (Any ∷ left) rest
leftmost_suffices ms cs left rest same later =
    same_bool (some_rest (fits_marks ms) cs) (fits_marks (Any ∷ left) rest) (λ h. sym (some_rest-some_rest (fits_marks left) rest) ∙ later h) (λ h. some_rest_here (fits_marks ms) cs (same ∙ h))

-- the same, with no run behind the marks: they have to take the whole text
pub segment_suffices : (ms : List Mark) (cs : List ℕ) (left : List Mark) (rest : List ℕ) → fits_marks ms cs ≡ fits_marks left rest → (some_rest (fits_marks ms) cs ≡ true → some_rest (fits_marks left) rest ≡ true) → is_run_next left ≡ true → (left ≡ [] → rest ≡ []) → some_rest (fits_marks ms) cs ≡ fits_marks left rest
segment_suffices ms cs [] rest same later next whole =
    let fit : fits_marks [] rest ≡ true = ap (fits_marks []) (whole refl) in
    some_rest_here (fits_marks ms) cs (same ∙ fit) ∙ sym fit
segment_suffices ms cs (Is d ∷ left) rest same later next whole = absurd (false≢true next)
segment_suffices ms cs (One ∷ left) rest same later next whole = absurd (false≢true next)
segment_suffices ms cs (Any ∷ left) rest same later next whole = leftmost_suffices ms cs left rest same later

no_run_next : (m : Mark) (ms : List Mark) (c : ℕ) → takes m c ≡ true → is_run_next (m ∷ ms) ≡ false
no_run_next (Is d) ms c h = refl
no_run_next One ms c h = refl
no_run_next Any ms c h = absurd (false≢true h)

-- a mark that takes the first character leaves the rest of the marks for the rest of the text
pub same_behind : (m : Mark) (ms : List Mark) (c : ℕ) (cs : List ℕ) → takes m c ≡ true → fits_marks (m ∷ ms) (c ∷ cs) ≡ fits_marks ms cs
same_behind m ms c cs h = fits_marks-one m ms c cs (no_run_next m ms c h) ∙ ap (λ b. b && fits_marks ms cs) h

pub later_behind_taken : (m : Mark) (ms : List Mark) (c : ℕ) (cs : List ℕ) → takes m c ≡ true → some_rest (fits_marks (m ∷ ms)) (c ∷ cs) ≡ true → some_rest (fits_marks ms) cs ≡ true
later_behind_taken m ms c cs h = later_behind m ms c cs (no_run_next m ms c h)
