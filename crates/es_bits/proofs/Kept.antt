-- A list of truth values in its words.
use Rattle.std.proofs.Common.{◌≡◌, ℕ, ◌+◌, ◌-◌, ◌*◌, ◌/◌, ◌%◌, ◌^◌, ◌<◌, ◌≤◌, Bool, true, false, List, [], ◌∷◌, ◌++◌, length, get_or, set, take, drop, replicate, count_by, slice_get, Some, eqb, sym, ap, ap₂, ◌∙◌, arith, append-nil, take-append-drop, length-set}
use Rattle.std.specs.Int.{bit_at, div_ceil}
use Rattle.std.specs.Simd.Lanes.{zip2}
use Rattle.std.proofs.lemmas.List.{length-take-le, take_at, drop_at, take_all, set-append_left, get_or-take, take_more, set_at, length-replicate, replicate-append-replicate}
use Rattle.std.proofs.lemmas.List.Sums.{count_by-le-length}
use Rattle.std.proofs.lemmas.Option.{slice_get-get_or}
use Rattle.es_bits.specs.Places.{true_places_from}
use Rattle.es_bits.specs.Words.{word_bits, bits_of, IsTidy}
use Rattle.es_bits.proofs.Truths.{take-zip2, drop-zip2, zip2-replicate, places-padded, count-padded}
use Rattle.es_bits.proofs.Word.{get_or-word_bits}
use Rattle.es_bits.proofs.Held.{length-bits_of, bits_of-replicate, get_or-bits_of, bits_of-set, bits_of-last}

pub length-held : (ws : List ℕ) (len : ℕ) → IsTidy ws len → length (take len (bits_of ws)) ≡ len
length-held ws len tidy = length-take-le len (bits_of ws) (omega (arith, tidy.enough, length-bits_of ws))

-- the words hold the truth values, and false from there on
pub padded : (ws : List ℕ) (len : ℕ) → IsTidy ws len → bits_of ws ≡ take len (bits_of ws) ++ replicate (64 * length ws - len) false
padded ws len tidy = sym (take-append-drop len (bits_of ws)) ∙ ap (λ xs. take len (bits_of ws) ++ xs) tidy.past

-- lists of one length have as many words
pub same_length : (ws vs : List ℕ) (len len' : ℕ) → IsTidy ws len → IsTidy vs len' → length (take len (bits_of ws)) ≡ length (take len' (bits_of vs)) → len ≡ len'
same_length ws vs len len' tidy tidy' e = sym (length-held ws len tidy) ∙ e ∙ length-held vs len' tidy'

-- what begins with the truth values and is false from there on
pub tidy_from : (ws : List ℕ) (len : ℕ) (xs : List Bool) → len < 2 ^ 64 → length xs ≡ len → length ws ≡ div_ceil len 64 → bits_of ws ≡ xs ++ replicate (64 * length ws - len) false
    → IsTidy ws len × (take len (bits_of ws) ≡ xs)
tidy_from ws len xs short long enough e = (
  record { enough = enough; past = ap (drop len) e ∙ drop_at xs (replicate (64 * length ws - len) false) len long; short = short },
  ap (take len) e ∙ take_at xs (replicate (64 * length ws - len) false) len long,
)

-- ---- one place

pub set_tidy : (ws : List ℕ) (len at v : ℕ) → IsTidy ws len → at < len → word_bits v ≡ set (word_bits (get_or ws (at / 64) 0)) (at % 64) true
    → IsTidy (set ws (at / 64) v) len × (take len (bits_of (set ws (at / 64) v)) ≡ set (take len (bits_of ws)) at true)
set_tidy ws len at v tidy within e =
    let front = take len (bits_of ws) in
    let rest = replicate (64 * length ws - len) false in
    let place : 64 * (at / 64) + at % 64 ≡ at = omega arith in
    let same : length (set ws (at / 64) v) ≡ length ws = length-set ws (at / 64) v in
    let changed : bits_of (set ws (at / 64) v) ≡ set front at true ++ rest =
    bits_of-set ws (at / 64) (at % 64) v true (omega (arith, tidy.enough)) (omega arith) e
    ∙ ap₂ (λ xs i. set xs i true) (padded ws len tidy) place
    ∙ set-append_left front rest at true (omega (arith, length-held ws len tidy)) in
    tidy_from (set ws (at / 64) v) len (set front at true) tidy.short
    (length-set front at true ∙ length-held ws len tidy)
    (same ∙ tidy.enough)
    (changed ∙ ap (λ n. set front at true ++ replicate (64 * n - len) false) (sym same))

pub get_held : (ws : List ℕ) (len at : ℕ) → IsTidy ws len → at < len → slice_get (take len (bits_of ws)) at ≡ Some (eqb (bit_at (get_or ws (at / 64) 0) (at % 64)) 1)
get_held ws len at tidy within =
    let place : at ≡ 64 * (at / 64) + at % 64 = omega arith in
    slice_get-get_or (take len (bits_of ws)) at false (omega (arith, length-held ws len tidy))
    ∙ ap Some (get_or-take len (bits_of ws) at false within ∙ ap (λ i. get_or (bits_of ws) i false) place
    ∙ get_or-bits_of ws (at / 64) (at % 64) (omega (arith, tidy.enough)) (omega arith) ∙ get_or-word_bits (get_or ws (at / 64) 0) (at % 64) (omega arith))

-- ---- all places

pub pairs_tidy : (g : Bool → Bool → Bool) (ws vs us : List ℕ) (len len' : ℕ) → g false false ≡ false → IsTidy ws len → IsTidy vs len' → length (take len (bits_of ws)) ≡ length (take len' (bits_of vs))
    → length us ≡ length ws → bits_of us ≡ zip2 g (bits_of ws) (bits_of vs)
    → IsTidy us len × (take len (bits_of us) ≡ zip2 g (take len (bits_of ws)) (take len' (bits_of vs)))
pairs_tidy g ws vs us len len' none tidy tidy' alike same e =
    let lengths : len ≡ len' = same_length ws vs len len' tidy tidy' alike in
    let words : length vs ≡ length ws = omega (arith, tidy.enough, tidy'.enough) in (
      record {
        enough = same ∙ tidy.enough;
        past =
            ap (drop len) e ∙ drop-zip2 g len (bits_of ws) (bits_of vs)
            ∙ ap₂ (zip2 g) tidy.past (ap (λ n. drop n (bits_of vs)) lengths ∙ tidy'.past ∙ ap₂ (λ n m. replicate (64 * n - m) false) words (sym lengths))
            ∙ zip2-replicate g (64 * length ws - len) false false
            ∙ ap₂ (λ n b. replicate (64 * n - len) b) (sym same) none;
        short = tidy.short;
      },
      ap (take len) e ∙ take-zip2 g len (bits_of ws) (bits_of vs) ∙ ap (λ n. zip2 g (take len (bits_of ws)) (take n (bits_of vs))) lengths,
    )

pub words_alike : (ws vs : List ℕ) (len len' : ℕ) → IsTidy ws len → IsTidy vs len' → length (take len (bits_of ws)) ≡ length (take len' (bits_of vs)) → length ws ≡ length vs
words_alike ws vs len len' tidy tidy' alike =
    tidy.enough ∙ ap (λ n. div_ceil n 64) (same_length ws vs len len' tidy tidy' alike) ∙ sym tidy'.enough

pub repeated_tidy : (len w : ℕ) (b : Bool) → len < 2 ^ 64 → word_bits w ≡ replicate 64 b → b ≡ false
    → IsTidy (replicate (div_ceil len 64) w) len × (take len (bits_of (replicate (div_ceil len 64) w)) ≡ replicate len b)
repeated_tidy len w b short e none =
    let n = div_ceil len 64 in
    let words : length (replicate n w) ≡ n = length-replicate n w in
    let all : len + (64 * n - len) ≡ 64 * n = omega arith in
    tidy_from (replicate n w) len (replicate len b) short (length-replicate len b) words
    (bits_of-replicate n w b e ∙ ap (λ m. replicate m b) (sym all) ∙ sym (replicate-append-replicate len (64 * n - len) b)
    ∙ ap₂ (λ m d. replicate len b ++ replicate (64 * m - len) d) (sym words) none)

-- after `clear_past`
pub cleared_tidy : (us : List ℕ) (xs : List Bool) (n len : ℕ) → len < 2 ^ 64 → length us ≡ n → n ≡ div_ceil len 64 → length xs ≡ 64 * n → bits_of us ≡ take len xs ++ replicate (64 * n - len) false
    → IsTidy us len × (take len (bits_of us) ≡ take len xs)
cleared_tidy us xs n len short same enough long e =
    tidy_from us len (take len xs) short (length-take-le len xs (omega arith)) (same ∙ enough) (e ∙ ap (λ m. take len xs ++ replicate (64 * m - len) false) (sym same))

-- the last word without its digits from the place on
pub cleared : (ws : List ℕ) (len v : ℕ) → length ws ≡ div_ceil len 64 → 0 < len % 64 → word_bits v ≡ take (len % 64) (word_bits (get_or ws (len / 64) 0)) ++ replicate (64 - len % 64) false
    → bits_of (set ws (len / 64) v) ≡ take len (bits_of ws) ++ replicate (64 * length ws - len) false
cleared ws len v enough used e =
    let i = len / 64 in
    let w = get_or ws i 0 in
    let words : length ws ≡ i + 1 = omega arith in
    let front : length (take i ws) ≡ i = length-take-le i ws (omega arith) in
    let whole : ws ≡ take i ws ++ w ∷ [] = sym (take_all (i + 1) ws (omega arith)) ∙ take_more ws i 0 (omega arith) in
    let place : 64 * length (take i ws) + len % 64 ≡ len = omega arith in
    let left : 64 - len % 64 ≡ 64 * length ws - len = omega arith in
    ap (λ us. bits_of (set us i v)) whole ∙ ap bits_of (set_at (take i ws) w [] v i front)
    ∙ bits_of-last (take i ws) w v (len % 64) (omega arith) e
    ∙ ap₂ (λ n m. take n (bits_of (take i ws ++ w ∷ [])) ++ replicate m false) place left
    ∙ ap (λ us. take len (bits_of us) ++ replicate (64 * length ws - len) false) (sym whole)

pub nothing_past : (ws : List ℕ) (len : ℕ) → length ws ≡ div_ceil len 64 → len % 64 ≡ 0 → bits_of ws ≡ take len (bits_of ws) ++ replicate (64 * length ws - len) false
nothing_past ws len enough used =
    let none : 64 * length ws - len ≡ 0 = omega arith in
    sym (ap₂ (λ xs n. xs ++ replicate n false) (take_all len (bits_of ws) (omega (arith, length-bits_of ws))) none ∙ append-nil (bits_of ws))

-- ---- counts and places

pub count_held : (ws : List ℕ) (len : ℕ) → IsTidy ws len → count_by (λ b. b) (bits_of ws) ≡ count_by (λ b. b) (take len (bits_of ws))
count_held ws len tidy =
    ap (count_by (λ b. b)) (padded ws len tidy) ∙ count-padded (take len (bits_of ws)) (64 * length ws - len)

pub count_held-le : (ws : List ℕ) (len : ℕ) → IsTidy ws len → count_by (λ b. b) (bits_of ws) ≤ len
count_held-le ws len tidy =
    omega (arith, count_held ws len tidy, count_by-le-length (λ b. b) (take len (bits_of ws)), length-held ws len tidy)

pub places_held : (ws : List ℕ) (len : ℕ) → IsTidy ws len → true_places_from 0 (bits_of ws) ≡ true_places_from 0 (take len (bits_of ws))
places_held ws len tidy = ap (true_places_from 0) (padded ws len tidy) ∙ places-padded 0 (take len (bits_of ws)) (64 * length ws - len)
