-- Truth values in words of 64, for private clauses.
use Rattle.std.specs.Prelude.{◌≡◌, ℕ, zero, suc, ◌-◌, ◌*◌, ◌/◌, ◌%◌, ◌^◌, ◌<◌, ◌==◌, List, [], ◌∷◌, Bool, false, length, drop, replicate}
use Rattle.std.specs.List.{flat_map}
use Rattle.std.specs.Int.{div_ceil}

-- so many binary digits of a number, the lowest first: whether each is 1
unfoldable pub low_bits : ℕ → ℕ → List Bool
low_bits zero n = []
low_bits (suc count) n = (n % 2 == 1) ∷ low_bits count (n / 2)

-- the truth values that a word holds
unfoldable pub word_bits : ℕ → List Bool
word_bits word = low_bits 64 word

-- the truth values that words hold, one after the other
abbrev pub bits_of : List ℕ → List Bool
bits_of words = flat_map word_bits words

-- there are as many words as so many truth values need, what lies past the last of these is false, and their number fits a `usize`
pub record IsTidy (words : List ℕ) (len : ℕ) : Type 0 where
  pub enough : length words ≡ div_ceil len 64
  pub past : drop len (bits_of words) ≡ replicate (64 * length words - len) false
  pub short : len < 2 ^ 64
