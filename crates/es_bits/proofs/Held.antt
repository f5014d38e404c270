-- The truth values that words hold.
use Rattle.std.proofs.Common.{◌≡◌, ℕ, zero, suc, ◌+◌, ◌-◌, ◌*◌, ◌<◌, ◌≤◌, Bool, false, cond, not, ◌&&◌, ◌||◌, List, [], ◌∷◌, ◌++◌, length, get_or, set, take, map, replicate, count_by, count_ones, Fits, refl, sym, ap, ap₂, ◌∙◌, arith, append_assoc, append-nil, length-append}
use Rattle.std.specs.Int.{bit_not, w64}
use Rattle.std.specs.Int.RustNames.{bit_and, bit_or}
use Rattle.std.specs.List.{sum_by}
use Rattle.std.specs.Simd.Lanes.{zip2}
use Rattle.std.proofs.Math.Seq.{take-append-add}
use Rattle.std.proofs.lemmas.List.{map-append, get_or-append-add, get_or_append_left, set-append_left, set-append_right, replicate-append-replicate}
use Rattle.std.proofs.lemmas.List.Concat.{flat_map-append}
use Rattle.std.proofs.lemmas.List.Sums.{sum_by-cons, sum_by-append}
use Rattle.es_bits.specs.Pairs.{both, either}
use Rattle.es_bits.specs.Words.{word_bits, bits_of}
use Rattle.es_bits.proofs.Truths.{zip2-append}
use Rattle.es_bits.proofs.Word.{length-word_bits, word_bits-and, word_bits-or, word_bits-not, count-word_bits}

pub length-bits_of : (ws : List ℕ) → length (bits_of ws) ≡ 64 * length ws
length-bits_of [] = refl
length-bits_of (w ∷ ws) = omega (arith, length-append (word_bits w) (bits_of ws), length-word_bits w, length-bits_of ws)

pub bits_of-replicate : (n w : ℕ) (b : Bool) → word_bits w ≡ replicate 64 b → bits_of (replicate n w) ≡ replicate (64 * n) b
bits_of-replicate zero w b e = refl
bits_of-replicate (suc n) w b e =
    let whole : 64 + 64 * n ≡ 64 * suc n = omega arith in
    ap₂ (λ xs ys. xs ++ ys) e (bits_of-replicate n w b e) ∙ replicate-append-replicate 64 (64 * n) b ∙ ap (λ m. replicate m b) whole

-- an operation on two words that is one on their truth values
pub bits_of-zip2 : (f : ℕ → ℕ → ℕ) (g : Bool → Bool → Bool) → ((a b : ℕ) → word_bits (f a b) ≡ zip2 g (word_bits a) (word_bits b))
    → (vs ws : List ℕ) → length vs ≡ length ws → bits_of (zip2 f vs ws) ≡ zip2 g (bits_of vs) (bits_of ws)
bits_of-zip2 f g each [] ws h = refl
bits_of-zip2 f g each (v ∷ vs) [] h = absurd (omega arith)
bits_of-zip2 f g each (v ∷ vs) (w ∷ ws) h =
    ap₂ (λ xs ys. xs ++ ys) (each v w) (bits_of-zip2 f g each vs ws (omega arith))
    ∙ sym (zip2-append g (word_bits v) (bits_of vs) (word_bits w) (bits_of ws) (length-word_bits v ∙ sym (length-word_bits w)))

pub bits_of-and : (vs ws : List ℕ) → length vs ≡ length ws → bits_of (zip2 bit_and vs ws) ≡ both (bits_of vs) (bits_of ws)
bits_of-and = bits_of-zip2 bit_and (λ x y. x && y) word_bits-and

pub bits_of-or : (vs ws : List ℕ) → length vs ≡ length ws → bits_of (zip2 bit_or vs ws) ≡ either (bits_of vs) (bits_of ws)
bits_of-or = bits_of-zip2 bit_or (λ x y. x || y) word_bits-or

pub bits_of-not : (ws : List ℕ) → ((k : ℕ) → Fits w64 (get_or ws k 0)) → bits_of (map (bit_not w64) ws) ≡ map not (bits_of ws)
bits_of-not [] fits = refl
bits_of-not (w ∷ ws) fits =
    ap₂ (λ xs ys. xs ++ ys) (word_bits-not w (fits 0).fits) (bits_of-not ws (λ k. fits (suc k))) ∙ sym (map-append not (word_bits w) (bits_of ws))

pub count-bits_of : (ws : List ℕ) → ((k : ℕ) → Fits w64 (get_or ws k 0)) → count_by (λ b. b) (bits_of ws) ≡ sum_by count_ones ws
count-bits_of [] fits = refl
count-bits_of (w ∷ ws) fits =
    sum_by-append (λ b. cond b 1 0) (word_bits w) (bits_of ws)
    ∙ ap₂ (λ x y. x + y) (count-word_bits w (fits 0).fits) (count-bits_of ws (λ k. fits (suc k))) ∙ sym (sum_by-cons count_ones w ws)

-- the truth value at a place, in its word
pub get_or-bits_of : (ws : List ℕ) (i k : ℕ) → i < length ws → k < 64 → get_or (bits_of ws) (64 * i + k) false ≡ get_or (word_bits (get_or ws i 0)) k false
get_or-bits_of [] i k h low = absurd (omega arith)
get_or-bits_of (w ∷ ws) zero k h low =
    let at : 64 * 0 + k ≡ k = omega arith in
    ap (λ j. get_or (bits_of (w ∷ ws)) j false) at ∙ get_or_append_left (word_bits w) (bits_of ws) false k (omega (arith, length-word_bits w))
get_or-bits_of (w ∷ ws) (suc i) k h low =
    let at : 64 * suc i + k ≡ length (word_bits w) + (64 * i + k) = omega (arith, length-word_bits w) in
    ap (λ j. get_or (bits_of (w ∷ ws)) j false) at ∙ get_or-append-add (word_bits w) (bits_of ws) (64 * i + k) false ∙ get_or-bits_of ws i k (omega arith) low

-- a word with one truth value changed
pub bits_of-set : (ws : List ℕ) (i k v : ℕ) (b : Bool) → i < length ws → k < 64 → word_bits v ≡ set (word_bits (get_or ws i 0)) k b
    → bits_of (set ws i v) ≡ set (bits_of ws) (64 * i + k) b
bits_of-set [] i k v b h low e = absurd (omega arith)
bits_of-set (w ∷ ws) zero k v b h low e =
    let at : 64 * 0 + k ≡ k = omega arith in
    ap (λ xs. xs ++ bits_of ws) e ∙ sym (ap (λ j. set (bits_of (w ∷ ws)) j b) at ∙ set-append_left (word_bits w) (bits_of ws) k b (omega (arith, length-word_bits w)))
bits_of-set (w ∷ ws) (suc i) k v b h low e =
    let at : 64 * suc i + k - 64 ≡ 64 * i + k = omega arith in
    ap (λ xs. word_bits w ++ xs) (bits_of-set ws i k v b (omega arith) low e)
    ∙ sym (set-append_right (word_bits w) (bits_of ws) 64 (64 * suc i + k) b (length-word_bits w) (omega arith) ∙ ap (λ j. word_bits w ++ set (bits_of ws) j b) at)

-- the last word with its upper truth values false
pub bits_of-last : (ws : List ℕ) (w v u : ℕ) → u ≤ 64 → word_bits v ≡ take u (word_bits w) ++ replicate (64 - u) false
    → bits_of (ws ++ v ∷ []) ≡ take (64 * length ws + u) (bits_of (ws ++ w ∷ [])) ++ replicate (64 - u) false
bits_of-last ws w v u low e =
    let before : length (bits_of ws) ≡ 64 * length ws = length-bits_of ws in
    flat_map-append word_bits ws (v ∷ []) ∙ ap (λ xs. bits_of ws ++ xs) (append-nil (word_bits v) ∙ e)
    ∙ sym (append_assoc (bits_of ws) (take u (word_bits w)) (replicate (64 - u) false))
    ∙ ap (λ xs. xs ++ replicate (64 - u) false)
    (sym (ap (λ xs. take (64 * length ws + u) xs) (flat_map-append word_bits ws (w ∷ []) ∙ ap (λ xs. bits_of ws ++ xs) (append-nil (word_bits w)))
    ∙ ap (λ n. take (n + u) (bits_of ws ++ word_bits w)) (sym before) ∙ take-append-add (bits_of ws) (word_bits w) u))
