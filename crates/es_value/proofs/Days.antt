-- The days of the calendar, in its words and in ours.
use Rattle.std.proofs.Common.{◌≡◌, ℕ, ◌≤◌, Bool, true, false, ◌&&◌, List, nat_le, if◌then◌else◌, Some, None, ℤ, pos, ◌≤ℤ◌, refl, sym, ap, ◌∙◌, arith}
use Rattle.std.proofs.lemmas.Int.{ints}
use Rattle.std.proofs.lemmas.Bool.Decides.{nat_tests}
use Rattle.jiff_core.specs.Calendar.{IsDate, days_in_month, days_from_civil}
use Rattle.jiff_core.specs.Date.{IsYmd, epoch_day}
use Rattle.jiff_core.specs.declared.civil.date.Date.{Date}
use Rattle.std.proofs.lemmas.Option.{same_Some}
use Rattle.es_value.specs.Dates.{is_day, said}

at_most : (a b : ℕ) → pos a ≤ℤ pos b → a ≤ b
at_most a b h = omega (arith, ints)

within : (m d n : ℕ) → 1 ≤ m → m ≤ 12 → 1 ≤ d → d ≤ n → ((nat_le 1 m && nat_le m 12) && (nat_le 1 d && nat_le d n)) ≡ true
within m d n a b c e = grind (arith, nat_tests)

is_day_of : (y m d : ℕ) → IsDate (pos y) (pos m) (pos d) → is_day y m d ≡ true
is_day_of y m d h = within m d (days_in_month (pos y) m) (at_most _ _ h.1.0) (at_most _ _ h.1.1) (at_most _ _ h.2.0) (at_most _ _ h.2.1)

chosen : {A : Type 0} (b : Bool) (x y : A) → b ≡ true → (if b then x else y) ≡ x
chosen b x y h = rw h refl

pub found_day : (y m d : ℕ) (found : Date) → IsDate (pos y) (pos m) (pos d) → IsYmd (pos y) (pos m) (pos d) found → Some (epoch_day found) ≡ (if is_day y m d then Some (days_from_civil (pos y) m d) else None)
found_day y m d found h e =
    let year : found.year ≡ pos y = e.0 in
    let month : found.month ≡ m = cc in
    let day : found.day ≡ d = cc in
    let same : epoch_day found ≡ days_from_civil (pos y) m d = rw (year, month, day) refl in
    ap Some same ∙ sym (chosen (is_day y m d) _ _ (is_day_of y m d h))

-- what is said of a day that the calendar has
pub said_on : (a b : Bool) (e day m : ℤ) (f : ℤ → ℤ) (text : List ℕ) → a ≡ true → Some e ≡ (if b then Some day else None) → m ≡ f e → Some m ≡ said (if a && b then Some (f day, text) else None)
said_on true true e day m f text p q r = ap Some (r ∙ ap f (same_Some e day q))
said_on true false e day m f text p q r = cc
said_on false true e day m f text p q r = cc
said_on false false e day m f text p q r = cc
