-- How a text is cut at its slashes.
use Rattle.std.proofs.Common.{◌≡◌, ℕ, ◌<◌, false, List, [], ◌∷◌, length, eqb, ◌∙◌, ap, arith}
use Rattle.std.specs.List.{All, slice_split, position_or_len, before_first, after_first}
use Rattle.std.proofs.lemmas.List.Elements.{All-from_get_or}
use Rattle.std.proofs.lemmas.List.Splits.{slice_split_none, slice_split_first, length-slice_split}
use Rattle.std.proofs.lemmas.List.Sums.{fails_before_first}

no_slash : (text : List ℕ) → position_or_len (λ b. eqb b 47) text ≡ length text → All (λ b. eqb b 47 ≡ false) text
no_slash text end = All-from_get_or (λ b. eqb b 47 ≡ false) text 0 (λ i within. fails_before_first (λ b. eqb b 47) text i 0 (omega arith))

-- without a slash the text is the one segment
pub one_segment : (text : List ℕ) → position_or_len (λ b. eqb b 47) text ≡ length text → slice_split (λ b. eqb b 47) text ≡ text ∷ []
one_segment text end = slice_split_none (λ b. eqb b 47) text (no_slash text end)

-- the first segment ends at the first slash
pub first_segment : (text first rest : List ℕ) → position_or_len (λ b. eqb b 47) text < length text
    → first ≡ before_first (λ b. eqb b 47) text → rest ≡ after_first (λ b. eqb b 47) text
    → slice_split (λ b. eqb b 47) text ≡ first ∷ slice_split (λ b. eqb b 47) rest
first_segment text first rest within f r = slice_split_first (λ b. eqb b 47) text 0 within ∙ rw (f, r)

-- a text with a slash behind three segments: five at least
pub five_at_least : (a b c text first rest : List ℕ) → position_or_len (λ b. eqb b 47) text < length text
    → first ≡ before_first (λ b. eqb b 47) text → rest ≡ after_first (λ b. eqb b 47) text
    → 4 < length (a ∷ b ∷ c ∷ slice_split (λ b. eqb b 47) text)
five_at_least a b c text first rest within f r =
    let cut : length (slice_split (λ b. eqb b 47) text) ≡ length (first ∷ slice_split (λ b. eqb b 47) rest) = ap length (first_segment text first rest within f r) in
    let left = length-slice_split (λ b. eqb b 47) rest in
    omega arith
