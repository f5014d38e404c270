-- The values of fields, one field more.
use Rattle.std.proofs.Common.{◌≡◌, ℕ, ◌+◌, ◌*◌, ◌<◌, ◌≤◌, ◌-◌, ◌^◌, Bool, true, false, ◌||◌, ◌&&◌, List, [], ◌∷◌, ◌++◌, length, take, map, get_or, sym, ap, refl, arith}
use Rattle.std.specs.List.{filter, list_any, list_all}
use Rattle.std.specs.Str.{str_eq_ignore_ascii_case}
use Rattle.std.specs.Char.{is_ascii_digit, digit_value}
use Rattle.std.specs.Str.Parse.{digits_value, AllDigits}
use Rattle.std.proofs.lemmas.Bool.Decides.{nat_tests}
use Rattle.std.proofs.lemmas.List.{map-append, append-nil}
use Rattle.std.proofs.lemmas.List.Elements.{filter-append}
use Rattle.std.proofs.lemmas.List.Folds.{list_any-append}
use Rattle.std.proofs.Common.{codes, zero, suc}
use Rattle.std.proofs.lemmas.Str.{digit_value_digit}
use Rattle.std.proofs.lemmas.Int.Digits.{digits_value-lt, digits_value_more}
use Rattle.std.proofs.lemmas.Str.Parse.{digits_value-take-le}
use Rattle.std.specs.Int.{IsInRange}
use Rattle.std.proofs.Math.Nat.{pow-le-pow_right}
use Rattle.std.proofs.lemmas.Bool.{leb-true}
use Rattle.es_wire.specs.Framing.{is_decimal}
use Rattle.std.proofs.Common.{nat_le}
use Rattle.es_wire.specs.declared.request.Once.{Once}
use Rattle.es_wire.specs.declared.framing.Framing.TheVariants.{Refused}
use Rattle.es_wire.specs.declared.fields.Times.{Times}
use Rattle.es_wire.specs.declared.fields.Times.TheVariants as times
use Rattle.es_wire.specs.Times.{once_at}
use Rattle.es_wire.specs.Framing.{values_of, once_of, is_absent, is_coding, framing_of, length_framing}

pub values_of-hit : (name : List ℕ) (pairs : List (List ℕ × List ℕ)) (p : List ℕ × List ℕ) → str_eq_ignore_ascii_case p.0 name ≡ true
    → values_of name (pairs ++ p ∷ []) ≡ values_of name pairs ++ p.1 ∷ []
unfolding values_of
values_of-hit name pairs p hit =
    let parts = filter-append (λ (q : List ℕ × List ℕ). str_eq_ignore_ascii_case q.0 name) pairs (p ∷ []) in
    rw (parts, hit, map-append) refl

pub values_of-miss : (name : List ℕ) (pairs : List (List ℕ × List ℕ)) (p : List ℕ × List ℕ) → str_eq_ignore_ascii_case p.0 name ≡ false
    → values_of name (pairs ++ p ∷ []) ≡ values_of name pairs
unfolding values_of
values_of-miss name pairs p miss =
    let parts = filter-append (λ (q : List ℕ × List ℕ). str_eq_ignore_ascii_case q.0 name) pairs (p ∷ []) in
    rw (parts, miss) (ap (map (λ (q : List ℕ × List ℕ). q.1)) (append-nil (filter (λ (q : List ℕ × List ℕ). str_eq_ignore_ascii_case q.0 name) pairs)))

or_false : (a : Bool) → (a || false) ≡ a
or_false true = refl
or_false false = refl

or_true : (a : Bool) → (a || true) ≡ true
or_true true = refl
or_true false = refl

-- a value that passes the test is among them now
pub any_hit : (test : List ℕ → Bool) (name : List ℕ) (pairs : List (List ℕ × List ℕ)) (p : List ℕ × List ℕ)
    → str_eq_ignore_ascii_case p.0 name ≡ true → test p.1 ≡ true → true ≡ list_any test (values_of name (pairs ++ p ∷ []))
any_hit test name pairs p hit passes =
    sym (rw (values_of-hit name pairs p hit, list_any-append test (values_of name pairs) (p.1 ∷ []), passes) (or_true (list_any test (values_of name pairs))))

pub any_same : (test : List ℕ → Bool) (name : List ℕ) (pairs : List (List ℕ × List ℕ)) (p : List ℕ × List ℕ)
    → str_eq_ignore_ascii_case p.0 name ≡ true → test p.1 ≡ false → list_any test (values_of name pairs) ≡ list_any test (values_of name (pairs ++ p ∷ []))
any_same test name pairs p hit no_ =
    sym (rw (values_of-hit name pairs p hit, list_any-append test (values_of name pairs) (p.1 ∷ []), no_) (or_false (list_any test (values_of name pairs))))

-- the refusals and the body, by what the fields say
pub framing-coded : (pairs : List (List ℕ × List ℕ)) → is_absent (once_of (values_of (codes "transfer-encoding") pairs)) ≡ false
    → Refused 411 ≡ framing_of pairs
unfolding framing_of
framing-coded pairs e = rw e refl

pub framing-encoded : (pairs : List (List ℕ × List ℕ)) → is_absent (once_of (values_of (codes "transfer-encoding") pairs)) ≡ true
    → list_any is_coding (values_of (codes "content-encoding") pairs) ≡ true
    → Refused 415 ≡ framing_of pairs
unfolding framing_of
framing-encoded pairs e f = rw (e, f) refl

pub framing-length : (pairs : List (List ℕ × List ℕ)) → is_absent (once_of (values_of (codes "transfer-encoding") pairs)) ≡ true
    → list_any is_coding (values_of (codes "content-encoding") pairs) ≡ false
    → length_framing (once_of (values_of (codes "content-length") pairs)) ≡ framing_of pairs
unfolding framing_of
framing-length pairs e f = rw (e, f) refl

pub absent_not : (front : List ℕ) (t : Times) (o : Once) → once_at front t ≡ o → (t ≡ times.Never → ⊥) → is_absent o ≡ false
absent_not front times.Never o e other = absurd (other refl)
absent_not front (times.Once s) o e other = rw (← e) refl
absent_not front times.Again o e other = rw (← e) refl

pub absent_is : (front : List ℕ) (t : Times) (o : Once) → once_at front t ≡ o → t ≡ times.Never → is_absent o ≡ true
absent_is front t o e is = rw (← e, is) refl

-- digits are digits below ten
digit_below : (c : ℕ) → is_ascii_digit c ≡ true → (48 ≤ c) × (c ≤ 57)
digit_below c e = grind (arith, nat_tests)

digit_range : (c : ℕ) → is_ascii_digit c ≡ true → IsInRange 48 57 c
digit_range c e = digit_below c e

pub and_parts : (a b : Bool) → (a && b) ≡ true → (a ≡ true) × (b ≡ true)
and_parts true b e = (refl, e)
and_parts false b e = cc

-- what a digit stands for
pub digit_is : (c : ℕ) → is_ascii_digit c ≡ true → digit_value c + 48 ≡ c
digit_is c e = digit_value_digit c (digit_range c e)

digit_small : (c : ℕ) → is_ascii_digit c ≡ true → digit_value c < 10
digit_small c e =
    let d = digit_is c e in
    let b = digit_below c e in
    omega arith

pub digit_at : (cs : List ℕ) (i : ℕ) → list_all is_ascii_digit cs ≡ true → i < length cs → is_ascii_digit (get_or cs i 0) ≡ true
digit_at [] i e lt = absurd (omega arith)
digit_at (c ∷ cs) zero e lt = (and_parts (is_ascii_digit c) (list_all is_ascii_digit cs) e).0
digit_at (c ∷ cs) (suc i) e lt = digit_at cs i (and_parts (is_ascii_digit c) (list_all is_ascii_digit cs) e).1 (omega arith)

pub AllDigits-from_test : (cs : List ℕ) → list_all is_ascii_digit cs ≡ true → AllDigits 10 cs
AllDigits-from_test [] e = tt
AllDigits-from_test (c ∷ cs) e =
    let both = and_parts (is_ascii_digit c) (list_all is_ascii_digit cs) e in
    (digit_small c both.0, AllDigits-from_test cs both.1)

pub any_miss : (test : List ℕ → Bool) (name : List ℕ) (pairs : List (List ℕ × List ℕ)) (p : List ℕ × List ℕ)
    → str_eq_ignore_ascii_case p.0 name ≡ false → list_any test (values_of name pairs) ≡ list_any test (values_of name (pairs ++ p ∷ []))
any_miss test name pairs p miss = ap (list_any test) (sym (values_of-miss name pairs p miss))

-- the number so far is below 10 ^ 18
pub digits_small : (value : List ℕ) (i : ℕ) → list_all is_ascii_digit value ≡ true → i ≤ length value → length value ≤ 18 → digits_value 10 (take i value) < 10 ^ 18
digits_small value i e le few =
    let all = digits_value-lt 10 value (AllDigits-from_test value e) in
    let part = digits_value-take-le 10 value i (omega arith) in
    let pow : 10 ^ length value ≤ 10 ^ 18 = pow-le-pow_right (omega arith) few in
    omega arith

-- the parts of the test
pub length_parts : (value : List ℕ) → is_decimal value ≡ true → (length value ≤ 18) × (list_all is_ascii_digit value ≡ true)
length_parts value e =
    let outer = and_parts (nat_le 1 (length value) && nat_le (length value) 18) (list_all is_ascii_digit value) e in
    let inner = and_parts (nat_le 1 (length value)) (nat_le (length value) 18) outer.0 in
    (leb-true (length value) 18 inner.1, outer.1)

-- one digit more
pub number_more : (value : List ℕ) (i n : ℕ) → is_decimal value ≡ true → i < length value → n ≡ digits_value 10 (take i value)
    → (n < 10 ^ 18) × (48 ≤ get_or value i 0) × (get_or value i 0 ≤ 57) × (n * 10 + (get_or value i 0 - 48) ≡ digits_value 10 (take (i + 1) value))
number_more value i n e lt so_far =
    let parts = length_parts value e in
    let digit = digit_at value i parts.1 lt in
    let range = digit_below (get_or value i 0) digit in
    let is = digit_is (get_or value i 0) digit in
    let more = digits_value_more 10 value i lt in
    let small = digits_small value i parts.1 (omega arith) parts.0 in
    (omega arith, range.0, range.1, rw (more, so_far) (omega arith))
