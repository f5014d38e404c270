-- Digits in front of a text, and the number that they write.
use Rattle.std.proofs.Common.{◌≡◌, ℕ, ◌+◌, ◌*◌, ◌<◌, ◌≤◌, ◌-◌, ◌^◌, Bool, true, false, ◌&&◌, cond, zero, suc, List, [], ◌∷◌, length, take, drop, get_or, nat_le, Option, Some, None, refl, sym, ap, ◌∙◌, arith}
use Rattle.std.specs.List.{list_all, prefix_len, take_while}
use Rattle.std.specs.Char.{is_ascii_digit, digit_value}
use Rattle.std.specs.Int.{IsInRange}
use Rattle.std.specs.Str.Parse.{digits_value, AllDigits}
use Rattle.std.proofs.Math.Nat.{pow-le-pow_right}
use Rattle.std.proofs.lemmas.Bool.{leb-true}
use Rattle.std.proofs.lemmas.Bool.Decides.{nat_tests}
use Rattle.std.proofs.lemmas.Str.{digit_value_digit}
use Rattle.std.proofs.lemmas.Str.Parse.{digits_value-take-le}
use Rattle.std.proofs.lemmas.Int.Digits.{digits_value-lt, digits_value_more}
use Rattle.std.proofs.lemmas.List.Sums.{take_while-cons}
use Rattle.es_request.specs.Keys.{first_counts, is_number, digits_in}

front_step : (p : ℕ → Bool) (x : ℕ) (xs : List ℕ) (b : Bool) → p x ≡ b → list_all p xs ≡ true → list_all p (cond b (x ∷ xs) []) ≡ true
front_step p x xs true e all = rw (e, all) refl
front_step p x xs false e all = refl

-- what stands in front is digits
pub front_all : (p : ℕ → Bool) (xs : List ℕ) → list_all p (take_while p xs) ≡ true
front_all p [] = refl
front_all p (x ∷ xs) = rw (take_while-cons p x xs) (front_step p x (take_while p xs) (p x) refl (front_all p xs))

pub digits_front : (text digits : List ℕ) → digits ≡ take (digits_in text) text → list_all is_ascii_digit digits ≡ true
digits_front text digits e = rw e (front_all is_ascii_digit text)

-- ---- the number

and_parts : (a b : Bool) → (a && b) ≡ true → (a ≡ true) × (b ≡ true)
and_parts true b e = (refl, e)
and_parts false b e = cc

digit_below : (c : ℕ) → is_ascii_digit c ≡ true → (48 ≤ c) × (c ≤ 57)
digit_below c e = grind (arith, nat_tests)

digit_range : (c : ℕ) → is_ascii_digit c ≡ true → IsInRange 48 57 c
digit_range c e = digit_below c e

-- what a digit stands for
digit_is : (c : ℕ) → is_ascii_digit c ≡ true → digit_value c + 48 ≡ c
digit_is c e = digit_value_digit c (digit_range c e)

digit_small : (c : ℕ) → is_ascii_digit c ≡ true → digit_value c < 10
digit_small c e =
    let d = digit_is c e in
    let b = digit_below c e in
    omega arith

digit_at : (cs : List ℕ) (i : ℕ) → list_all is_ascii_digit cs ≡ true → i < length cs → is_ascii_digit (get_or cs i 0) ≡ true
digit_at [] i e lt = absurd (omega arith)
digit_at (c ∷ cs) zero e lt = (and_parts (is_ascii_digit c) (list_all is_ascii_digit cs) e).0
digit_at (c ∷ cs) (suc i) e lt = digit_at cs i (and_parts (is_ascii_digit c) (list_all is_ascii_digit cs) e).1 (omega arith)

are_digits : (cs : List ℕ) → list_all is_ascii_digit cs ≡ true → AllDigits 10 cs
are_digits [] e = tt
are_digits (c ∷ cs) e =
    let both = and_parts (is_ascii_digit c) (list_all is_ascii_digit cs) e in
    (digit_small c both.0, are_digits cs both.1)

-- the digits so far write no more than all
digits_small : (value : List ℕ) (i : ℕ) → list_all is_ascii_digit value ≡ true → i ≤ length value → length value ≤ 15 → digits_value 10 (take i value) < 10 ^ 15
digits_small value i e le few =
    let all = digits_value-lt 10 value (are_digits value e) in
    let part = digits_value-take-le 10 value i (omega arith) in
    let pow : 10 ^ length value ≤ 10 ^ 15 = pow-le-pow_right (omega arith) few in
    omega arith

few_digits : (value : List ℕ) → is_number value ≡ true → length value ≤ 15
few_digits value e = leb-true (length value) 15 (and_parts (first_counts value) (nat_le (length value) 15) e).1

-- one digit more
pub number_more : (value : List ℕ) (i n : ℕ) → list_all is_ascii_digit value ≡ true → is_number value ≡ true → i < length value → n ≡ digits_value 10 (take i value)
    → (n < 10 ^ 15) × (48 ≤ get_or value i 0) × (get_or value i 0 ≤ 57) × (n * 10 + (get_or value i 0 - 48) ≡ digits_value 10 (take (i + 1) value))
number_more value i n all e lt so_far =
    let digit = digit_at value i all lt in
    let range = digit_below (get_or value i 0) digit in
    let is = digit_is (get_or value i 0) digit in
    let more = digits_value_more 10 value i lt in
    let small = digits_small value i all (omega arith) (few_digits value e) in
    (omega arith, range.0, range.1, rw (more, so_far) (omega arith))
