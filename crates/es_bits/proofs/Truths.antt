-- Lists of truth values: pairs place by place, counts and places.
use Rattle.std.proofs.Common.{◌≡◌, ℕ, zero, suc, ◌+◌, ◌<◌, Bool, true, false, cond, List, [], ◌∷◌, ◌++◌, length, take, drop, map, replicate, count_by, slice_get, Some, refl, sym, ap, ◌∙◌, arith, add-zero, append-nil}
use Rattle.std.proofs.lemmas.List.Sums.{sum_by-cons}
use Rattle.std.proofs.lemmas.Option.{none-some, same_Some}
use Rattle.std.specs.Simd.Lanes.{zip2}
use Rattle.es_bits.specs.Places.{true_places_from}

-- ---- pairs

pub zip2-append : {X Y Z : Type 0} (f : X → Y → Z) (xs xs' : List X) (ys ys' : List Y) → length xs ≡ length ys → zip2 f (xs ++ xs') (ys ++ ys') ≡ zip2 f xs ys ++ zip2 f xs' ys'
zip2-append f [] xs' [] ys' h = refl
zip2-append f [] xs' (y ∷ ys) ys' h = absurd (cc)
zip2-append f (x ∷ xs) xs' [] ys' h = absurd (cc)
zip2-append f (x ∷ xs) xs' (y ∷ ys) ys' h = ap (λ zs. f x y ∷ zs) (zip2-append f xs xs' ys ys' cc)

pub take-zip2 : {X Y Z : Type 0} (f : X → Y → Z) (n : ℕ) (xs : List X) (ys : List Y) → take n (zip2 f xs ys) ≡ zip2 f (take n xs) (take n ys)
take-zip2 f zero xs ys = refl
take-zip2 f (suc n) [] ys = refl
take-zip2 f (suc n) (x ∷ xs) [] = refl
take-zip2 f (suc n) (x ∷ xs) (y ∷ ys) = ap (λ zs. f x y ∷ zs) (take-zip2 f n xs ys)

zip2-nil : {X Y Z : Type 0} (f : X → Y → Z) (xs : List X) → zip2 f xs [] ≡ []
zip2-nil f [] = refl
zip2-nil f (x ∷ xs) = refl

pub drop-zip2 : {X Y Z : Type 0} (f : X → Y → Z) (n : ℕ) (xs : List X) (ys : List Y) → drop n (zip2 f xs ys) ≡ zip2 f (drop n xs) (drop n ys)
drop-zip2 f zero xs ys = refl
drop-zip2 f (suc n) [] ys = refl
drop-zip2 f (suc n) (x ∷ xs) [] = sym (zip2-nil f (drop n xs))
drop-zip2 f (suc n) (x ∷ xs) (y ∷ ys) = drop-zip2 f n xs ys

pub zip2-replicate : {X Y Z : Type 0} (f : X → Y → Z) (n : ℕ) (x : X) (y : Y) → zip2 f (replicate n x) (replicate n y) ≡ replicate n (f x y)
zip2-replicate f zero x y = refl
zip2-replicate f (suc n) x y = ap (λ zs. f x y ∷ zs) (zip2-replicate f n x y)

pub map-replicate : {X Y : Type 0} (f : X → Y) (n : ℕ) (x : X) → map f (replicate n x) ≡ replicate n (f x)
map-replicate f zero x = refl
map-replicate f (suc n) x = ap (λ ys. f x ∷ ys) (map-replicate f n x)

-- ---- places

pub places-nil : (n : ℕ) → true_places_from n [] ≡ []
unfolding true_places_from
places-nil n = refl

pub places-true : (n : ℕ) (bs : List Bool) → true_places_from n (true ∷ bs) ≡ n ∷ true_places_from (n + 1) bs
unfolding true_places_from
places-true n bs = refl

pub places-false : (n : ℕ) (bs : List Bool) → true_places_from n (false ∷ bs) ≡ true_places_from (n + 1) bs
unfolding true_places_from
places-false n bs = refl

pub places-append : (n : ℕ) (bs cs : List Bool) → true_places_from n (bs ++ cs) ≡ true_places_from n bs ++ true_places_from (n + length bs) cs
places-append n [] cs = rw (places-nil n, add-zero) refl
places-append n (true ∷ bs) cs =
    let same : n + 1 + length bs ≡ n + suc (length bs) = omega arith in
    places-true n (bs ++ cs) ∙ ap (λ ps. n ∷ ps) (places-append (n + 1) bs cs ∙ ap (λ m. true_places_from (n + 1) bs ++ true_places_from m cs) same)
    ∙ sym (ap (λ ps. ps ++ true_places_from (n + suc (length bs)) cs) (places-true n bs))
places-append n (false ∷ bs) cs =
    let same : n + 1 + length bs ≡ n + suc (length bs) = omega arith in
    places-false n (bs ++ cs) ∙ places-append (n + 1) bs cs ∙ ap (λ m. true_places_from (n + 1) bs ++ true_places_from m cs) same
    ∙ sym (ap (λ ps. ps ++ true_places_from (n + suc (length bs)) cs) (places-false n bs))

-- there are as many places as true values
pub length-places : (n : ℕ) (bs : List Bool) → length (true_places_from n bs) ≡ count_by (λ b. b) bs
length-places n [] = ap length (places-nil n)
length-places n (true ∷ bs) =
    ap length (places-true n bs) ∙ ap suc (length-places (n + 1) bs) ∙ omega (arith, sum_by-cons (λ b. cond b 1 0) true bs)
length-places n (false ∷ bs) =
    ap length (places-false n bs) ∙ length-places (n + 1) bs ∙ omega (arith, sum_by-cons (λ b. cond b 1 0) false bs)

pub places-none : (n count : ℕ) → true_places_from n (replicate count false) ≡ []
places-none n zero = places-nil n
places-none n (suc count) = places-false n (replicate count false) ∙ places-none (n + 1) count

-- values past the last true one change no place
pub places-padded : (n : ℕ) (bs : List Bool) (count : ℕ) → true_places_from n (bs ++ replicate count false) ≡ true_places_from n bs
places-padded n bs count =
    places-append n bs (replicate count false) ∙ ap (λ ps. true_places_from n bs ++ ps) (places-none (n + length bs) count) ∙ append-nil (true_places_from n bs)

pub count-padded : (bs : List Bool) (count : ℕ) → count_by (λ b. b) (bs ++ replicate count false) ≡ count_by (λ b. b) bs
count-padded bs count =
    sym (length-places 0 (bs ++ replicate count false)) ∙ ap length (places-padded 0 bs count) ∙ length-places 0 bs

-- each place is one of the list, counted from the first
pub places-within : (n : ℕ) (bs : List Bool) (k p : ℕ) → slice_get (true_places_from n bs) k ≡ Some p → p < n + length bs
places-within n [] k p e = absurd (none-some p (rw places-nil at e))
places-within n (true ∷ bs) zero p e =
    let here : n ≡ p = same_Some n p (rw places-true at e) in omega arith
places-within n (true ∷ bs) (suc k) p e =
    let later : p < n + 1 + length bs = places-within (n + 1) bs k p (rw places-true at e) in omega arith
places-within n (false ∷ bs) k p e =
    let later : p < n + 1 + length bs = places-within (n + 1) bs k p (rw places-false at e) in omega arith

-- ---- an element by its place, in two lists one after the other

pub slice_get-append_left : {X : Type 0} (xs ys : List X) (i : ℕ) → i < length xs → slice_get (xs ++ ys) i ≡ slice_get xs i
slice_get-append_left [] ys i h = absurd (omega arith)
slice_get-append_left (x ∷ xs) ys zero h = refl
slice_get-append_left (x ∷ xs) ys (suc i) h = slice_get-append_left xs ys i (omega arith)

pub slice_get-append_right : {X : Type 0} (xs ys : List X) (i j : ℕ) → i ≡ length xs + j → slice_get (xs ++ ys) i ≡ slice_get ys j
slice_get-append_right [] ys i j h = let same : i ≡ j = omega arith in ap (slice_get ys) same
slice_get-append_right (x ∷ xs) ys zero j h = absurd (omega arith)
slice_get-append_right (x ∷ xs) ys (suc i) j h = slice_get-append_right xs ys i j (omega arith)
