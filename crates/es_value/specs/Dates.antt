-- Texts of dates, read from front to back. The calendar is that of ISO 8601, with the years 0000 to 9999.
use Rattle.std.specs.Prelude.{ℕ, ◌+◌, ◌*◌, ℤ, pos, ◌+ℤ◌, ◌-ℤ◌, ◌*ℤ◌, List, [], ◌∷◌, length, take, drop, Option, Some, None, Bool, ◌==◌, ◌&&◌, ◌||◌, nat_le, nat_lt, is_some, is_none, if◌then◌else◌}
use Rattle.std.specs.List.{list_all}
use Rattle.std.specs.Char.{is_ascii_digit}
use Rattle.std.specs.Option.{option_or, unwrap_or}
use Rattle.std.specs.Str.Parse.{digits_value}
use Rattle.jiff_core.specs.Calendar.{days_in_month, days_from_civil}
use Rattle.es_value.specs.Numbers.{number_of}

-- what the front of a text says, and what follows it
abbrev pub Part : Type 0 → Type 0
Part A = List ℕ → Option (A × List ℕ)

abbrev pub then_read : {A B : Type 0} → Option (A × List ℕ) → (A → Part B) → Option (B × List ℕ)
then_read None f = None
then_read (Some x) f = f x.0 x.1

infixl 10 ◌>>=◌
abbrev pub ◌>>=◌ : {A B : Type 0} → Part A → (A → Part B) → Part B
(part >>= f) text = then_read (part text) f

-- what the parts before mean
abbrev pub means : {A : Type 0} → A → Part A
means x text = Some (x, text)

-- the number of exactly so many digits
abbrev pub digits : ℕ → Part ℕ
digits n text = if nat_le n (length text) && list_all is_ascii_digit (take n text) then Some (digits_value 10 (take n text), drop n text) else None

-- exactly so many digits, of a number below the bound
abbrev pub below : ℕ → ℕ → Part ℕ
below bound n = digits n >>= λ x text. if nat_lt x bound then Some (x, text) else None

-- the character
abbrev pub sign : ℕ → Part (Unit {0})
sign c [] = None
sign c (b ∷ text) = if b == c then Some (tt, text) else None

abbrev pub some_of : {A : Type 0} → Part A → Part (Option A)
some_of part = part >>= λ x. means (Some x)

-- the part behind the character, if the character is there
abbrev pub after : {A : Type 0} → ℕ → Part A → Part (Option A)
after c part [] = Some (None, [])
after c part (b ∷ text) = if b == c then some_of part text else Some (None, b ∷ text)

-- nothing follows
abbrev pub ends : Part (Unit {0})
ends [] = Some (tt, [])
ends (b ∷ text) = None

abbrev pub or_part : {A : Type 0} → Part A → Part A → Part A
or_part one other text = option_or (one text) (other text)

-- a part of a second, of 1 to 3 digits, in milliseconds
abbrev pub fraction : Part ℕ
fraction = or_part (digits 3) (or_part (digits 2 >>= λ n. means (10 * n)) (digits 1 >>= λ n. means (100 * n)))

-- seconds and their fraction, in milliseconds
abbrev pub seconds : Part ℕ
seconds = below 60 2 >>= λ s. after 46 fraction >>= λ f. means (1000 * s + unwrap_or f 0)

-- hours and minutes, in minutes
abbrev pub minutes : Part ℕ
minutes = below 24 2 >>= λ h. sign 58 >>= λ c. below 60 2 >>= λ m. means (60 * h + m)

-- how many minutes a local time is ahead of UTC: `Z`, an offset from UTC, or nothing
abbrev pub zone : Part ℤ
zone [] = Some (pos 0, [])
zone (b ∷ text) =
    if b == 90 then Some (pos 0, text) else
    (if b == 43 then (minutes >>= λ m. means (pos m)) text else
    (if b == 45 then (minutes >>= λ m. means (pos 0 -ℤ pos m)) text else None))

-- the milliseconds from the day's first moment in UTC
abbrev pub time : Part ℤ
time = minutes >>= λ m. after 58 seconds >>= λ s. zone >>= λ z. means (pos (60000 * m + unwrap_or s 0) -ℤ (pos 60000 *ℤ z))

-- the calendar has this day
abbrev pub is_day : ℕ → ℕ → ℕ → Bool
is_day year month day = (nat_le 1 month && nat_le month 12) && (nat_le 1 day && nat_le day (days_in_month (pos year) month))

-- the moment of a day and a time on it, in milliseconds since 1970
abbrev pub moment : ℕ → ℕ → ℕ → ℤ → ℤ
moment year month day z = (pos 86400000 *ℤ days_from_civil (pos year) month day) +ℤ z

-- a time stands behind a day alone
abbrev pub on_a_day : Option ℕ → Option ℤ → Bool
on_a_day day t = is_some day || is_none t

abbrev pub moment_if : (year : ℕ) (month day : Option ℕ) (t : Option ℤ) → Part ℤ
moment_if year month day t text =
    if on_a_day day t && is_day year (unwrap_or month 1) (unwrap_or day 1) then Some (moment year (unwrap_or month 1) (unwrap_or day 1) (unwrap_or t (pos 0)), text) else None

-- a year, then perhaps a month, a day of it and a time on it; the first moment of what is said
abbrev pub date : Part ℤ
date = digits 4 >>= λ year. after 45 (digits 2) >>= λ month. after 45 (digits 2) >>= λ day. after 84 time >>= λ t. ends >>= λ end. moment_if year month day t

abbrev pub said : Option (ℤ × List ℕ) → Option ℤ
said None = None
said (Some x) = Some x.0

-- The moment that a text says, in milliseconds since 1970: a date, or else a number of milliseconds. Four digits are a year.
unfoldable pub date_of : List ℕ → Option ℤ
date_of text = option_or (said (date text)) (number_of text)
