-- One step of the loops over words, and over the digits of a word.
use Rattle.std.proofs.Common.{◌≡◌, ℕ, zero, suc, ◌+◌, ◌-◌, ◌*◌, ◌^◌, ◌<◌, ◌≤◌, Bool, true, false, not, List, [], ◌∷◌, ◌++◌, length, get_or, set, take, drop, map, count_ones, slice_get, Some, None, refl, sym, ap, ap₂, ◌∙◌, arith, append_assoc, append-nil, add_assoc, length-drop, inl, inr}
use Rattle.std.specs.Int.{bit_not, trailing_zeros, w64}
use Rattle.std.specs.Int.RustNames.{bit_and}
use Rattle.std.proofs.lemmas.Bool.{cases_eq}
use Rattle.std.proofs.lemmas.List.{map-append, take_more_set, drop-set-lt, drop_more, drop-drop, drop_all}
use Rattle.std.proofs.lemmas.List.Concat.{flat_map-append}
use Rattle.std.proofs.lemmas.Option.{none-some, same_Some}
use Rattle.es_bits.specs.Places.{true_places_from}
use Rattle.es_bits.specs.Words.{word_bits, bits_of}
use Rattle.es_bits.proofs.Truths.{length-places, places-nil, places-none, places-append, places-within, places-true, places-false, slice_get-append_left, slice_get-append_right}
use Rattle.es_bits.proofs.Word.{length-word_bits, word_bits-zero, word_bits-not, count-word_bits, places-word_bits}

-- one more word gets its other values
pub inverted_more : (ws : List ℕ) (i : ℕ) → i < length ws → get_or ws i 0 < 2 ^ 64
    → bits_of (take (i + 1) (set ws i (bit_not w64 (get_or ws i 0)))) ++ map not (bits_of (drop (i + 1) (set ws i (bit_not w64 (get_or ws i 0)))))
    ≡ bits_of (take i ws) ++ map not (bits_of (drop i ws))
inverted_more ws i within fits =
    let w = get_or ws i 0 in
    let v = bit_not w64 w in
    let rest = drop (i + 1) ws in
    let step : i < i + 1 = omega arith in
    ap₂ (λ front back. bits_of front ++ map not (bits_of back)) (take_more_set ws i v within) (drop-set-lt (i + 1) ws i v step)
    ∙ ap (λ xs. xs ++ map not (bits_of rest)) (flat_map-append word_bits (take i ws) (v ∷ []) ∙ ap (λ xs. bits_of (take i ws) ++ xs) (append-nil (word_bits v) ∙ word_bits-not w fits))
    ∙ append_assoc (bits_of (take i ws)) (map not (word_bits w)) (map not (bits_of rest))
    ∙ ap (λ xs. bits_of (take i ws) ++ xs) (sym (ap (λ back. map not (bits_of back)) (drop_more ws i 0 within) ∙ map-append not (word_bits w) (bits_of rest)))

-- ---- places in a word

word_positive : (r i n : ℕ) (ps : List ℕ) → i < length ps → true_places_from 0 (word_bits r) ≡ drop i ps → 0 < r
word_positive r i n ps within e =
    elim (cases_eq r 0) [
      | inl none ↦
          let nothing : drop i ps ≡ [] = sym e ∙ ap (λ w. true_places_from 0 (word_bits w)) none ∙ ap (true_places_from 0) word_bits-zero ∙ places-none 0 64 in
          absurd (omega (arith, length-drop i ps, ap length nothing))
      | inr some ↦ omega arith
    ]

-- a number that has lost its i lowest digits that are 1 still has one
pub still_some : (w r i : ℕ) → w < 2 ^ 64 → i < count_ones w → true_places_from 0 (word_bits r) ≡ drop i (true_places_from 0 (word_bits w)) → 0 < r
still_some w r i fits within e =
    let count : length (true_places_from 0 (word_bits w)) ≡ count_ones w = length-places 0 (word_bits w) ∙ count-word_bits w fits in
    word_positive r i (count_ones w) (true_places_from 0 (word_bits w)) (omega arith) e

-- one more of the lowest digits that are 1 becomes 0
pub lowest_cleared : (w r i : ℕ) → r < 2 ^ 64 → 0 < r → true_places_from 0 (word_bits r) ≡ drop i (true_places_from 0 (word_bits w))
    → true_places_from 0 (word_bits (bit_and r (r - 1))) ≡ drop (i + 1) (true_places_from 0 (word_bits w))
lowest_cleared w r i fits some e =
    ap (drop 1) (sym (places-word_bits 0 r some fits) ∙ e) ∙ drop-drop 1 i (true_places_from 0 (word_bits w))

first_of_drop : {X : Type 0} (xs : List X) (i : ℕ) → slice_get xs i ≡ slice_get (drop i xs) 0
first_of_drop [] zero = refl
first_of_drop [] (suc i) = refl
first_of_drop (x ∷ xs) zero = refl
first_of_drop (x ∷ xs) (suc i) = first_of_drop xs i

-- the lowest digit that is 1
pub lowest_place : (w r i : ℕ) → r < 2 ^ 64 → 0 < r → true_places_from 0 (word_bits r) ≡ drop i (true_places_from 0 (word_bits w))
    → slice_get (true_places_from 0 (word_bits w)) i ≡ Some (trailing_zeros w64 r)
lowest_place w r i fits some e =
    let at : 0 + trailing_zeros w64 r ≡ trailing_zeros w64 r = omega arith in
    first_of_drop (true_places_from 0 (word_bits w)) i ∙ ap (λ ps. slice_get ps 0) (sym e ∙ places-word_bits 0 r some fits) ∙ ap Some at

pub place_within_word : (w i p : ℕ) → slice_get (true_places_from 0 (word_bits w)) i ≡ Some p → p < 64
place_within_word w i p e = omega (arith, places-within 0 (word_bits w) i p e, length-word_bits w)

-- ---- places in words

places_shifted : (n m : ℕ) (bs : List Bool) (k p : ℕ) → slice_get (true_places_from n bs) k ≡ Some p → slice_get (true_places_from (m + n) bs) k ≡ Some (m + p)
places_shifted n m [] k p e = absurd (none-some p (rw places-nil at e))
places_shifted n m (true ∷ bs) zero p e =
    ap (λ ps. slice_get ps 0) (places-true (m + n) bs) ∙ ap (λ q. Some (m + q)) (same_Some n p (rw places-true at e))
places_shifted n m (true ∷ bs) (suc k) p e =
    ap (λ ps. slice_get ps (suc k)) (places-true (m + n) bs)
    ∙ ap (λ q. slice_get (true_places_from q bs) k) (add_assoc m n 1) ∙ places_shifted (n + 1) m bs k p (rw places-true at e)
places_shifted n m (false ∷ bs) k p e =
    ap (λ ps. slice_get ps k) (places-false (m + n) bs)
    ∙ ap (λ q. slice_get (true_places_from q bs) k) (add_assoc m n 1) ∙ places_shifted (n + 1) m bs k p (rw places-false at e)

-- the words that are left, the first of them apart
places_split : (ws : List ℕ) (i : ℕ) → i < length ws
    → true_places_from (64 * i) (bits_of (drop i ws)) ≡ true_places_from (64 * i) (word_bits (get_or ws i 0)) ++ true_places_from (64 * (i + 1)) (bits_of (drop (i + 1) ws))
places_split ws i within =
    let w = get_or ws i 0 in
    let rest = drop (i + 1) ws in
    let next : 64 * i + length (word_bits w) ≡ 64 * (i + 1) = omega (arith, length-word_bits w) in
    ap (λ vs. true_places_from (64 * i) (bits_of vs)) (drop_more ws i 0 within)
    ∙ places-append (64 * i) (word_bits w) (bits_of rest) ∙ ap (λ n. true_places_from (64 * i) (word_bits w) ++ true_places_from n (bits_of rest)) next

word_count : (n w : ℕ) → w < 2 ^ 64 → length (true_places_from n (word_bits w)) ≡ count_ones w
word_count n w fits = length-places n (word_bits w) ∙ count-word_bits w fits

-- it is in the first of the words that are left
pub found_here : (ws : List ℕ) (i left p : ℕ) → i < length ws → get_or ws i 0 < 2 ^ 64 → left < count_ones (get_or ws i 0)
    → slice_get (true_places_from 0 (word_bits (get_or ws i 0))) left ≡ Some p
    → slice_get (true_places_from (64 * i) (bits_of (drop i ws))) left ≡ Some (i * 64 + p)
found_here ws i left p within fits low e =
    let w = get_or ws i 0 in
    let start : 64 * i + 0 ≡ 64 * i = omega arith in
    let place : 64 * i + p ≡ i * 64 + p = omega arith in
    ap (λ ps. slice_get ps left) (places_split ws i within)
    ∙ slice_get-append_left (true_places_from (64 * i) (word_bits w)) (true_places_from (64 * (i + 1)) (bits_of (drop (i + 1) ws))) left (omega (arith, word_count (64 * i) w fits))
    ∙ ap (λ n. slice_get (true_places_from n (word_bits w)) left) (sym start) ∙ places_shifted 0 (64 * i) (word_bits w) left p e ∙ ap Some place

-- it is in one of the words after that
pub found_later : (ws : List ℕ) (i left : ℕ) → i < length ws → get_or ws i 0 < 2 ^ 64 → count_ones (get_or ws i 0) ≤ left
    → slice_get (true_places_from (64 * (i + 1)) (bits_of (drop (i + 1) ws))) (left - count_ones (get_or ws i 0)) ≡ slice_get (true_places_from (64 * i) (bits_of (drop i ws))) left
found_later ws i left within fits high =
    let w = get_or ws i 0 in
    sym (ap (λ ps. slice_get ps left) (places_split ws i within)
    ∙ slice_get-append_right (true_places_from (64 * i) (word_bits w)) (true_places_from (64 * (i + 1)) (bits_of (drop (i + 1) ws))) left (left - count_ones w)
    (omega (arith, word_count (64 * i) w fits)))

-- no word is left
pub found_nowhere : (ws : List ℕ) (i left : ℕ) → length ws ≤ i → slice_get (true_places_from (64 * i) (bits_of (drop i ws))) left ≡ None
found_nowhere ws i left past = ap (λ vs. slice_get (true_places_from (64 * i) (bits_of vs)) left) (drop_all i ws past) ∙ ap (λ ps. slice_get ps left) (places-nil (64 * i))
