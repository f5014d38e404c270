-- The function that computes whether a pattern fits, and the relation.
use Rattle.std.proofs.Common.{◌≡◌, ◌==◌, ◌↔◌, inl, inr, ℕ, List, [], ◌∷◌, ◌++◌, Bool, true, false, IsTrue, Option, Some, None, refl, ap, ◌∙◌}
use Rattle.std.proofs.lemmas.Bool.{and_parts, and_from, or_cases, or_right, false≢true, eqb-true, eq-eqb}
use Rattle.std.specs.Option.{option_map_or, IsSomeAnd}
use Rattle.std.specs.Str.{chars}
use Rattle.es_glob.specs.declared.mark.Mark.{Mark}
use Rattle.es_glob.specs.declared.mark.Mark.TheVariants.{Is, One, Any}
use Rattle.es_glob.specs.Patterns.{some_rest, fits_marks, Fits, FitsText, fits, marks_of}
use Rattle.es_glob.proofs.Segments.{some_rest_here}

-- a text in two parts, of which the second passes
abbrev pub PassesBehind : (List ℕ → Bool) → List ℕ → Type 0
PassesBehind test text = (run : List ℕ) × (rest : List ℕ) × (text ≡ run ++ rest) × (test rest ≡ true)

longer : (test : List ℕ → Bool) (c : ℕ) (cs : List ℕ) → PassesBehind test cs → PassesBehind test (c ∷ cs)
longer test c cs p = (c ∷ p.0, p.1, ap (λ l. c ∷ l) p.2, p.3)

pub parts_from_some_rest : (test : List ℕ → Bool) (cs : List ℕ) → some_rest test cs ≡ true → PassesBehind test cs
parts_from_some_rest test [] h = ([], [], refl, h)
parts_from_some_rest test (c ∷ cs) h = elim (or_cases (test (c ∷ cs)) (some_rest test cs) h) [
  | inl here ↦ ([], c ∷ cs, refl, here)
  | inr behind ↦ longer test c cs (parts_from_some_rest test cs behind)
]

pub some_rest_from_parts : (test : List ℕ → Bool) (run rest : List ℕ) → test rest ≡ true → some_rest test (run ++ rest) ≡ true
some_rest_from_parts test [] rest h = some_rest_here test rest h
some_rest_from_parts test (c ∷ run) rest h = or_right (test (c ∷ run ++ rest)) (some_rest test (run ++ rest)) (some_rest_from_parts test run rest h)

pub Fits_from_fits_marks : (ms : List Mark) (cs : List ℕ) → fits_marks ms cs ≡ true → Fits ms cs
Fits_from_fits_marks [] [] h = refl
Fits_from_fits_marks [] (c ∷ cs) h = absurd (false≢true h)
Fits_from_fits_marks (Is d ∷ ms) [] h = absurd (false≢true h)
Fits_from_fits_marks (Is d ∷ ms) (c ∷ cs) h =
    let parts = and_parts (c == d) (fits_marks ms cs) h in
    (cs, ap (λ x. x ∷ cs) (eqb-true c d parts.0), Fits_from_fits_marks ms cs parts.1)
Fits_from_fits_marks (One ∷ ms) [] h = absurd (false≢true h)
Fits_from_fits_marks (One ∷ ms) (c ∷ cs) h = (c, cs, refl, Fits_from_fits_marks ms cs h)
Fits_from_fits_marks (Any ∷ ms) cs h =
    let parts = parts_from_some_rest (fits_marks ms) cs h in
    (parts.0, parts.1, parts.2, Fits_from_fits_marks ms parts.1 parts.3)

pub fits_marks_from_Fits : (ms : List Mark) (cs : List ℕ) → Fits ms cs → fits_marks ms cs ≡ true
fits_marks_from_Fits [] cs h = ap (fits_marks []) h
fits_marks_from_Fits (Is d ∷ ms) cs h =
    ap (fits_marks (Is d ∷ ms)) h.1 ∙ and_from (d == d) (fits_marks ms h.0) (eq-eqb d d refl) (fits_marks_from_Fits ms h.0 h.2)
fits_marks_from_Fits (One ∷ ms) cs h = ap (fits_marks (One ∷ ms)) h.2 ∙ fits_marks_from_Fits ms h.1 h.3
fits_marks_from_Fits (Any ∷ ms) cs h =
    ap (fits_marks (Any ∷ ms)) h.2 ∙ some_rest_from_parts (fits_marks ms) h.0 h.1 (fits_marks_from_Fits ms h.1 h.3)

-- the function on marks says what the relation says
pub fits_marks-Fits : (ms : List Mark) (cs : List ℕ) → IsTrue (fits_marks ms cs) ↔ Fits ms cs
fits_marks-Fits ms cs = (Fits_from_fits_marks ms cs, fits_marks_from_Fits ms cs)

fits_at : (found : Option (List Mark)) (cs : List ℕ) → IsTrue (option_map_or (λ ms. fits_marks ms cs) found false) ↔ IsSomeAnd found (λ ms. Fits ms cs)
fits_at None cs = (λ h. absurd (false≢true h), λ h. absurd h)
fits_at (Some ms) cs = fits_marks-Fits ms cs

-- the function on texts says what the relation on texts says
pub fits-FitsText : (pattern text : List ℕ) → IsTrue (fits pattern text) ↔ FitsText pattern text
unfolding fits FitsText
fits-FitsText pattern text = fits_at (marks_of (chars pattern)) (chars text)

fits-marks_at : (found : Option (List Mark)) (ms : List Mark) (cs : List ℕ) → found ≡ Some ms → option_map_or (λ marks. fits_marks marks cs) found false ≡ fits_marks ms cs
fits-marks_at found ms cs e = ap (λ marks. option_map_or (λ ms. fits_marks ms cs) marks false) e

-- a pattern fits where its marks do
pub fits-marks : (pattern text : List ℕ) (ms : List Mark) → marks_of (chars pattern) ≡ Some ms → fits pattern text ≡ fits_marks ms (chars text)
unfolding fits
fits-marks pattern text ms e = fits-marks_at (marks_of (chars pattern)) ms (chars text) e
