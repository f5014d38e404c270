-- A word as truth values.
use Rattle.std.proofs.Common.{◌≡◌, ℕ, zero, suc, ◌+◌, ◌-◌, ◌*◌, ◌/◌, ◌%◌, ◌^◌, ◌<◌, ◌≤◌, min, max, true, false, not, cond, eqb, ◌&&◌, ◌||◌, ◌∷◌, ◌++◌, length, get_or, set, take, map, replicate, count_by, count_ones, get_or-set_same, get_or-set_other, refl, sym, ap, ap₂, ◌∙◌, inl, inr, arith, add-zero, length-set, length-append}
use Rattle.std.specs.Int.{bit_at, bit_not, trailing_zeros, w64}
use Rattle.std.specs.Int.Count.{ones_step, count_trailing_zeros, under}
use Rattle.std.specs.Int.RustNames.{bit_and, bit_or}
use Rattle.std.specs.Int.Bits.{and_self}
use Rattle.std.proofs.lemmas.Bool.{cases_lt, cases_eq}
use Rattle.std.proofs.lemmas.List.{ext_get_or, get_or_append_left, get_or-take, get_or-append_right, get_or-replicate, length-replicate, length-take-le}
use Rattle.std.proofs.lemmas.List.Sums.{sum_by-cons}
use Rattle.std.proofs.lemmas.Nat.{pow_pos, ones_le_self, and_shr, or_shr, and_mod, or_mod}
use Rattle.std.proofs.lemmas.Nat.Bits.{bit_at-suc, bit_at_lowest, bit_at_and, bit_at_or, bit_at-lt, bit_at_ones, bit_at_ones_above, bit_at-pow_same, bit_at-pow_other}
use Rattle.std.proofs.Math.Nat.{pow-suc}
use Rattle.es_bits.specs.Pairs.{both, either}
use Rattle.es_bits.specs.Places.{true_places_from}
use Rattle.es_bits.specs.Words.{low_bits, word_bits}
use Rattle.es_bits.proofs.Truths.{map-replicate, places-true, places-false}

pub length-low_bits : (n w : ℕ) → length (low_bits n w) ≡ n
unfolding low_bits
length-low_bits zero w = refl
length-low_bits (suc n) w = ap suc (length-low_bits n (w / 2))

pub get_or-low_bits : (n w i : ℕ) → i < n → get_or (low_bits n w) i false ≡ eqb (bit_at w i) 1
unfolding low_bits
get_or-low_bits zero w i h = absurd (omega arith)
get_or-low_bits (suc n) w zero h = ap (λ d. eqb d 1) (sym (bit_at_lowest w))
get_or-low_bits (suc n) w (suc i) h = get_or-low_bits n (w / 2) i (omega arith) ∙ ap (λ d. eqb d 1) (sym (bit_at-suc w i))

and_digit : (x y : ℕ) → x < 2 → y < 2 → eqb (bit_and x y) 1 ≡ (eqb x 1 && eqb y 1)
and_digit zero y h k = refl
and_digit (suc zero) zero h k = refl
and_digit (suc zero) (suc zero) h k = refl
and_digit (suc zero) (suc (suc y)) h k = absurd (omega arith)
and_digit (suc (suc x)) y h k = absurd (omega arith)

or_digit : (x y : ℕ) → x < 2 → y < 2 → eqb (bit_or x y) 1 ≡ (eqb x 1 || eqb y 1)
or_digit zero y h k = refl
or_digit (suc zero) zero h k = refl
or_digit (suc zero) (suc zero) h k = refl
or_digit (suc zero) (suc (suc y)) h k = absurd (omega arith)
or_digit (suc (suc x)) y h k = absurd (omega arith)

pub low_bits-and : (n a b : ℕ) → low_bits n (bit_and a b) ≡ both (low_bits n a) (low_bits n b)
unfolding low_bits
low_bits-and zero a b = refl
low_bits-and (suc n) a b =
    ap₂ (λ d ds. d ∷ ds) (ap (λ d. eqb d 1) (and_mod a b 1) ∙ and_digit (a % 2) (b % 2) (omega arith) (omega arith))
    (ap (low_bits n) (and_shr a b 1) ∙ low_bits-and n (a / 2) (b / 2))

pub low_bits-or : (n a b : ℕ) → low_bits n (bit_or a b) ≡ either (low_bits n a) (low_bits n b)
unfolding low_bits
low_bits-or zero a b = refl
low_bits-or (suc n) a b =
    ap₂ (λ d ds. d ∷ ds) (ap (λ d. eqb d 1) (or_mod a b 1) ∙ or_digit (a % 2) (b % 2) (omega arith) (omega arith))
    (ap (low_bits n) (or_shr a b 1) ∙ low_bits-or n (a / 2) (b / 2))

not_digit : (x : ℕ) → x < 2 → eqb (1 - x) 1 ≡ not (eqb x 1)
not_digit zero h = refl
not_digit (suc zero) h = refl
not_digit (suc (suc x)) h = absurd (omega arith)

pub low_bits-not : (n w : ℕ) → w < 2 ^ n → low_bits n (2 ^ n - 1 - w) ≡ map not (low_bits n w)
unfolding low_bits
low_bits-not zero w h = refl
low_bits-not (suc n) w h =
    let twice : 2 ^ suc n ≡ 2 ^ n * 2 = pow-suc 2 n in
    let digit : (2 ^ suc n - 1 - w) % 2 ≡ 1 - w % 2 = omega arith in
    let rest : (2 ^ suc n - 1 - w) / 2 ≡ 2 ^ n - 1 - w / 2 = omega arith in
    ap₂ (λ d ds. d ∷ ds) (ap (λ d. eqb d 1) digit ∙ not_digit (w % 2) (omega arith))
    (ap (low_bits n) rest ∙ low_bits-not n (w / 2) (omega arith))

pub low_bits-zero : (n : ℕ) → low_bits n 0 ≡ replicate n false
unfolding low_bits
low_bits-zero zero = refl
low_bits-zero (suc n) = ap (λ ds. false ∷ ds) (low_bits-zero n)

pub low_bits-ones : (n : ℕ) → low_bits n (2 ^ n - 1) ≡ replicate n true
low_bits-ones n =
    let whole : 2 ^ n - 1 ≡ 2 ^ n - 1 - 0 = omega arith in
    ap (low_bits n) whole ∙ low_bits-not n 0 (pow_pos n) ∙ ap (map not) (low_bits-zero n) ∙ map-replicate not n false

-- the lowest digits stay, and those above them become 0
pub low_bits-masked : (n u w : ℕ) → u ≤ n → low_bits n (bit_and w (2 ^ u - 1)) ≡ take u (low_bits n w) ++ replicate (n - u) false
low_bits-masked n u w h =
    let front = take u (low_bits n w) in
    let long : length front ≡ u = length-take-le u (low_bits n w) (omega (arith, length-low_bits n w)) in
    let whole : length (front ++ replicate (n - u) false) ≡ n = omega (arith, length-append front (replicate (n - u) false), length-replicate (n - u) false) in
    ext_get_or false _ _ (length-low_bits n (bit_and w (2 ^ u - 1)) ∙ sym whole)
    (λ i within.
    let at : i < n = omega (arith, length-low_bits n (bit_and w (2 ^ u - 1))) in
    get_or-low_bits n (bit_and w (2 ^ u - 1)) i at ∙ ap (λ d. eqb d 1) (bit_at_and w (2 ^ u - 1) i)
    ∙ elim (cases_lt i u) [
      | inl below ↦
          let kept : min (bit_at w i) (bit_at (2 ^ u - 1) i) ≡ bit_at w i = omega (arith, bit_at-lt w i, bit_at_ones u i below) in
          ap (λ d. eqb d 1) kept ∙ sym (get_or-low_bits n w i at) ∙ sym (get_or-take u (low_bits n w) i false below)
          ∙ sym (get_or_append_left front (replicate (n - u) false) false i (omega arith))
      | inr above ↦
          let gone : min (bit_at w i) (bit_at (2 ^ u - 1) i) ≡ 0 = omega (arith, bit_at_ones_above u i above) in
          ap (λ d. eqb d 1) gone ∙ sym (get_or-replicate (n - u) (i - u) false false (omega arith))
          ∙ sym (get_or-append_right front (replicate (n - u) false) u i false long above)
    ])

-- one digit becomes 1
pub low_bits-set : (n k w : ℕ) → k < n → low_bits n (bit_or w (2 ^ k)) ≡ set (low_bits n w) k true
low_bits-set n k w h =
    ext_get_or false _ _ (length-low_bits n (bit_or w (2 ^ k)) ∙ sym (length-set (low_bits n w) k true ∙ length-low_bits n w))
    (λ i within.
    let at : i < n = omega (arith, length-low_bits n (bit_or w (2 ^ k))) in
    get_or-low_bits n (bit_or w (2 ^ k)) i at ∙ ap (λ d. eqb d 1) (bit_at_or w (2 ^ k) i)
    ∙ elim (cases_eq i k) [
      | inl same ↦
          let one : max (bit_at w i) (bit_at (2 ^ k) i) ≡ 1 = omega (arith, bit_at-lt w i, ap (bit_at (2 ^ k)) same ∙ bit_at-pow_same k) in
          ap (λ d. eqb d 1) one ∙ sym (ap (λ j. get_or (set (low_bits n w) k true) j false) same ∙ get_or-set_same (low_bits n w) k true false (omega (arith, length-low_bits n w)))
      | inr other ↦
          let kept : max (bit_at w i) (bit_at (2 ^ k) i) ≡ bit_at w i = omega (arith, bit_at-pow_other k i other) in
          ap (λ d. eqb d 1) kept ∙ sym (get_or-low_bits n w i at) ∙ sym (get_or-set_other (low_bits n w) k i true false other)
    ])

-- ---- counts and places

digit_count : (x : ℕ) → x < 2 → cond (eqb x 1) 1 0 ≡ x
digit_count zero h = refl
digit_count (suc zero) h = refl
digit_count (suc (suc x)) h = absurd (omega arith)

pub count-low_bits : (n w : ℕ) → w < 2 ^ n → count_by (λ b. b) (low_bits n w) ≡ count_ones w
unfolding low_bits
count-low_bits zero w h = omega (arith, ones_le_self w)
count-low_bits (suc n) w h =
    let twice : 2 ^ suc n ≡ 2 ^ n * 2 = pow-suc 2 n in
    sum_by-cons (λ b. cond b 1 0) (eqb (w % 2) 1) (low_bits n (w / 2))
    ∙ ap₂ (λ x y. x + y) (digit_count (w % 2) (omega arith)) (count-low_bits n (w / 2) (omega arith)) ∙ sym (ones_step w)

-- The first place is that of the lowest 1. The others are those of the number without it.
pub places-low_bits : (m n w : ℕ) → 0 < w → w < 2 ^ n → true_places_from m (low_bits n w) ≡ (m + count_trailing_zeros n w) ∷ true_places_from m (low_bits n (bit_and w (w - 1)))
unfolding low_bits count_trailing_zeros
places-low_bits m zero w p h = absurd (omega arith)
places-low_bits m (suc n) w p h =
    let twice : 2 ^ suc n ≡ 2 ^ n * 2 = pow-suc 2 n in
    elim (cases_eq (w % 2) 1) [
      | inl odd ↦
          let even_before : (w - 1) % 2 ≡ 0 = omega arith in
          let half_before : (w - 1) / 2 ≡ w / 2 = omega arith in
          let digit : bit_and w (w - 1) % 2 ≡ 0 = and_mod w (w - 1) 1 ∙ ap₂ bit_and odd even_before in
          let rest : bit_and w (w - 1) / 2 ≡ w / 2 = and_shr w (w - 1) 1 ∙ ap (bit_and (w / 2)) half_before ∙ and_self (w / 2) in
          ap (λ d. true_places_from m (eqb d 1 ∷ low_bits n (w / 2))) odd ∙ places-true m (low_bits n (w / 2))
          ∙ ap₂ (λ q qs. q ∷ qs) (sym (add-zero m) ∙ ap (λ d. m + under d (count_trailing_zeros n (w / 2))) (sym odd))
          (sym (ap₂ (λ d v. true_places_from m (eqb d 1 ∷ low_bits n v)) digit rest ∙ places-false m (low_bits n (w / 2))))
      | inr other ↦
          let even : w % 2 ≡ 0 = omega arith in
          let half_before : (w - 1) / 2 ≡ w / 2 - 1 = omega arith in
          let digit : bit_and w (w - 1) % 2 ≡ 0 = and_mod w (w - 1) 1 ∙ ap (λ d. bit_and d ((w - 1) % 2)) even in
          let rest : bit_and w (w - 1) / 2 ≡ bit_and (w / 2) (w / 2 - 1) = and_shr w (w - 1) 1 ∙ ap (bit_and (w / 2)) half_before in
          let first : m + 1 + count_trailing_zeros n (w / 2) ≡ m + suc (count_trailing_zeros n (w / 2)) = omega arith in
          ap (λ d. true_places_from m (eqb d 1 ∷ low_bits n (w / 2))) even ∙ places-false m (low_bits n (w / 2))
          ∙ places-low_bits (m + 1) n (w / 2) (omega arith) (omega arith)
          ∙ ap₂ (λ q qs. q ∷ qs) (first ∙ ap (λ d. m + under d (count_trailing_zeros n (w / 2))) (sym even))
          (sym (ap₂ (λ d v. true_places_from m (eqb d 1 ∷ low_bits n v)) digit rest ∙ places-false m (low_bits n (bit_and (w / 2) (w / 2 - 1)))))
    ]

-- ---- a word of 64 digits

pub length-word_bits : (w : ℕ) → length (word_bits w) ≡ 64
unfolding word_bits
length-word_bits w = length-low_bits 64 w

pub word_bits-and : (a b : ℕ) → word_bits (bit_and a b) ≡ both (word_bits a) (word_bits b)
unfolding word_bits
word_bits-and a b = low_bits-and 64 a b

pub word_bits-or : (a b : ℕ) → word_bits (bit_or a b) ≡ either (word_bits a) (word_bits b)
unfolding word_bits
word_bits-or a b = low_bits-or 64 a b

pub word_bits-not : (w : ℕ) → w < 2 ^ 64 → word_bits (bit_not w64 w) ≡ map not (word_bits w)
unfolding word_bits
word_bits-not w h = low_bits-not 64 w h

pub word_bits-zero : word_bits 0 ≡ replicate 64 false
unfolding word_bits
word_bits-zero = low_bits-zero 64

pub word_bits-ones : word_bits (2 ^ 64 - 1) ≡ replicate 64 true
unfolding word_bits
word_bits-ones = low_bits-ones 64

pub word_bits-masked : (u w : ℕ) → u ≤ 64 → word_bits (bit_and w (2 ^ u - 1)) ≡ take u (word_bits w) ++ replicate (64 - u) false
unfolding word_bits
word_bits-masked u w h = low_bits-masked 64 u w h

pub word_bits-set : (k w : ℕ) → k < 64 → word_bits (bit_or w (2 ^ k)) ≡ set (word_bits w) k true
unfolding word_bits
word_bits-set k w h = low_bits-set 64 k w h

pub get_or-word_bits : (w k : ℕ) → k < 64 → get_or (word_bits w) k false ≡ eqb (bit_at w k) 1
unfolding word_bits
get_or-word_bits w k h = get_or-low_bits 64 w k h

pub count-word_bits : (w : ℕ) → w < 2 ^ 64 → count_by (λ b. b) (word_bits w) ≡ count_ones w
unfolding word_bits
count-word_bits w h = count-low_bits 64 w h

pub places-word_bits : (m w : ℕ) → 0 < w → w < 2 ^ 64 → true_places_from m (word_bits w) ≡ (m + trailing_zeros w64 w) ∷ true_places_from m (word_bits (bit_and w (w - 1)))
unfolding word_bits
places-word_bits m w p h = places-low_bits m 64 w p h
