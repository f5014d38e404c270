-- Laws of the operations, for callers.
use Rattle.std.proofs.Common.{◌≡◌, ℕ, zero, suc, ◌+◌, ◌<◌, ◌≤◌, Bool, true, false, ◌&&◌, ◌||◌, List, [], ◌∷◌, length, count_by, slice_get, Some, None, refl, sym, ap, ◌∙◌, arith, add-zero, get_or}
use Rattle.std.specs.Simd.Lanes.{zip2}
use Rattle.std.proofs.lemmas.Option.{none-some, same_Some, slice_get-get_or, slice_get_past}
use Rattle.std.proofs.lemmas.Simd.{length-zip2}
use Rattle.es_bits.specs.Pairs.{both, either}
use Rattle.es_bits.specs.Places.{true_places_from, true_places}
use Rattle.es_bits.proofs.Truths.{length-places, places-nil, places-true, places-false, places-within}

-- ---- pairs

pub length-both : (xs ys : List Bool) → length xs ≡ length ys → length (both xs ys) ≡ length xs
length-both = length-zip2 (λ x y. x && y)

pub length-either : (xs ys : List Bool) → length xs ≡ length ys → length (either xs ys) ≡ length xs
length-either = length-zip2 (λ x y. x || y)

slice_get-zip2 : (g : Bool → Bool → Bool) (xs ys : List Bool) (i : ℕ) (x y : Bool) → slice_get xs i ≡ Some x → slice_get ys i ≡ Some y → slice_get (zip2 g xs ys) i ≡ Some (g x y)
slice_get-zip2 g [] ys i x y e f = absurd (none-some x e)
slice_get-zip2 g (a ∷ xs) [] i x y e f = absurd (none-some y f)
slice_get-zip2 g (a ∷ xs) (b ∷ ys) zero x y e f = ap (λ v. Some (g v b)) (same_Some a x e) ∙ ap (λ v. Some (g x v)) (same_Some b y f)
slice_get-zip2 g (a ∷ xs) (b ∷ ys) (suc i) x y e f = slice_get-zip2 g xs ys i x y e f

pub slice_get-both : (xs ys : List Bool) (i : ℕ) (x y : Bool) → slice_get xs i ≡ Some x → slice_get ys i ≡ Some y → slice_get (both xs ys) i ≡ Some (x && y)
slice_get-both = slice_get-zip2 (λ x y. x && y)

pub slice_get-either : (xs ys : List Bool) (i : ℕ) (x y : Bool) → slice_get xs i ≡ Some x → slice_get ys i ≡ Some y → slice_get (either xs ys) i ≡ Some (x || y)
slice_get-either = slice_get-zip2 (λ x y. x || y)

-- ---- places

-- there are as many places as true values
pub length-true_places : (truths : List Bool) → length (true_places truths) ≡ count_by (λ truth. truth) truths
length-true_places truths = length-places 0 truths

-- so there is a place for each number below the count, and none for the others
pub place_from_count : (truths : List Bool) (k : ℕ) → k < count_by (λ truth. truth) truths → (p : ℕ) × (slice_get (true_places truths) k ≡ Some p)
place_from_count truths k low =
    (get_or (true_places truths) k 0, slice_get-get_or (true_places truths) k 0 (omega (arith, length-true_places truths)))

pub no_place_from_count : (truths : List Bool) (k : ℕ) → count_by (λ truth. truth) truths ≤ k → slice_get (true_places truths) k ≡ None
no_place_from_count truths k high = slice_get_past (true_places truths) k (omega (arith, length-true_places truths))

pub place_within : (truths : List Bool) (k p : ℕ) → slice_get (true_places truths) k ≡ Some p → p < length truths
place_within truths k p e = omega (arith, places-within 0 truths k p e)

place_true_from : (n : ℕ) (truths : List Bool) (k p : ℕ) → slice_get (true_places_from n truths) k ≡ Some p → (i : ℕ) × (p ≡ n + i) × (slice_get truths i ≡ Some true)
place_true_from n [] k p e = absurd (none-some p (rw places-nil at e))
place_true_from n (true ∷ truths) zero p e = (0, sym (same_Some n p (rw places-true at e)) ∙ sym (add-zero n), refl)
place_true_from n (true ∷ truths) (suc k) p e =
    let later = place_true_from (n + 1) truths k p (rw places-true at e) in (suc later.0, omega (arith, later.1), later.2)
place_true_from n (false ∷ truths) k p e =
    let later = place_true_from (n + 1) truths k p (rw places-false at e) in (suc later.0, omega (arith, later.1), later.2)

-- the value at each of the places is true
pub place_true : (truths : List Bool) (k p : ℕ) → slice_get (true_places truths) k ≡ Some p → slice_get truths p ≡ Some true
place_true truths k p e =
    let found = place_true_from 0 truths k p e in
    let same : p ≡ found.0 = omega (arith, found.1) in
    ap (slice_get truths) same ∙ found.2

place_of_true_from : (n : ℕ) (truths : List Bool) (i : ℕ) → slice_get truths i ≡ Some true → (k : ℕ) × (slice_get (true_places_from n truths) k ≡ Some (n + i))
place_of_true_from n [] i e = absurd (none-some true e)
place_of_true_from n (true ∷ truths) zero e = (0, ap (λ ps. slice_get ps 0) (places-true n truths) ∙ ap Some (sym (add-zero n)))
place_of_true_from n (false ∷ truths) zero e = absurd (cc)
place_of_true_from n (true ∷ truths) (suc i) e =
    let later = place_of_true_from (n + 1) truths i e in
    let at : n + 1 + i ≡ n + suc i = omega arith in
    (suc later.0, ap (λ ps. slice_get ps (suc later.0)) (places-true n truths) ∙ later.1 ∙ ap Some at)
place_of_true_from n (false ∷ truths) (suc i) e =
    let later = place_of_true_from (n + 1) truths i e in
    let at : n + 1 + i ≡ n + suc i = omega arith in
    (later.0, ap (λ ps. slice_get ps later.0) (places-false n truths) ∙ later.1 ∙ ap Some at)

-- each true value has its place among them
pub place_of_true : (truths : List Bool) (p : ℕ) → slice_get truths p ≡ Some true → (k : ℕ) × (slice_get (true_places truths) k ≡ Some p)
place_of_true truths p e =
    let found = place_of_true_from 0 truths p e in
    let same : 0 + p ≡ p = omega arith in
    (found.0, found.1 ∙ ap Some same)

place_from : (n : ℕ) (truths : List Bool) (k p : ℕ) → slice_get (true_places_from n truths) k ≡ Some p → n ≤ p
place_from n truths k p e = let found = place_true_from n truths k p e in omega (arith, found.1)

places_ascend_from : (n : ℕ) (truths : List Bool) (j k p q : ℕ) → slice_get (true_places_from n truths) j ≡ Some p → slice_get (true_places_from n truths) k ≡ Some q → j < k → p < q
places_ascend_from n [] j k p q e f h = absurd (none-some p (rw places-nil at e))
places_ascend_from n (true ∷ truths) j zero p q e f h = absurd (omega arith)
places_ascend_from n (true ∷ truths) zero (suc k) p q e f h =
    let first : n ≡ p = same_Some n p (rw places-true at e) in
    let after : n + 1 ≤ q = place_from (n + 1) truths k q (rw places-true at f) in omega arith
places_ascend_from n (true ∷ truths) (suc j) (suc k) p q e f h =
    places_ascend_from (n + 1) truths j k p q (rw places-true at e) (rw places-true at f) (omega arith)
places_ascend_from n (false ∷ truths) j k p q e f h =
    places_ascend_from (n + 1) truths j k p q (rw places-false at e) (rw places-false at f) h

-- they ascend
pub places_ascend : (truths : List Bool) (j k p q : ℕ) → slice_get (true_places truths) j ≡ Some p → slice_get (true_places truths) k ≡ Some q → j < k → p < q
places_ascend = places_ascend_from 0
