-- Whole numbers, as texts.
use Rattle.std.specs.Prelude.{ℕ, ℤ, pos, neg_ℤ, List, [], ◌∷◌, length, Option, Some, None, Bool, ◌==◌, ◌&&◌, nat_le, if◌then◌else◌}
use Rattle.std.specs.List.{list_all}
use Rattle.std.specs.Char.{is_ascii_digit}
use Rattle.std.specs.Str.Parse.{digits_value}
use Rattle.es_tree.specs.Order.{fits_i64}

-- 1 to 19 decimal digits
abbrev pub is_number : List ℕ → Bool
is_number text = (nat_le 1 (length text) && nat_le (length text) 19) && list_all is_ascii_digit text

-- the number, if it lies within 64 bits
abbrev pub fitting : ℤ → Option ℤ
fitting z = if fits_i64 z then Some z else None

-- the number that digits write, with its sign
abbrev pub signed : (ℕ → ℤ) → List ℕ → Option ℤ
signed sign text = if is_number text then fitting (sign (digits_value 10 text)) else None

-- the number that an optional `-` and 1 to 19 digits write, if it lies within 64 bits
unfoldable pub number_of : List ℕ → Option ℤ
number_of [] = None
number_of (b ∷ text) = if b == 45 then signed (λ n. neg_ℤ (pos n)) text else signed pos (b ∷ text)
