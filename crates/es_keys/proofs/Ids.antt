-- Ids of keys.
use Rattle.std.proofs.Common.{◌≡◌, ◌<◌, ℕ, zero, suc, ◌-◌, ◌^◌, List, ◌++◌, length, drop, replicate, codes, decimal, refl, sym, ap, ◌∙◌, arith}
use Rattle.std.proofs.lemmas.List.{append-nil}
use Rattle.std.specs.Fmt.{padded_integral, styled_decimal, format_spec, char_count}
use Rattle.std.specs.Str.Parse.{AllDigits, digits_value}
use Rattle.std.proofs.lemmas.Fmt.{digits_value-decimal}
use Rattle.std.proofs.lemmas.Str.Parse.{IsNumeralModel}
use Rattle.es_keys.specs.Keys.{id_of}

-- what is printed of a number where twelve digits with zeros in front are asked for
digits_printed : (n : ℕ) → styled_decimal (format_spec 32 0 4 12 (2 ^ 64 - 1)) n ≡ replicate (12 - length (decimal n)) 48 ++ decimal n
unfolding padded_integral char_count
digits_printed n =
    let none : 12 - length (decimal n) - 0 - 0 ≡ 12 - length (decimal n) = omega arith in
    rw (none, append-nil (decimal n)) refl

-- and of an id
pub printed : (place : ℕ) → codes "key-" ++ styled_decimal (format_spec 32 0 4 12 (2 ^ 64 - 1)) place ≡ id_of place
unfolding id_of
printed place = ap (λ (ds : List ℕ). codes "key-" ++ ds) (digits_printed place)

-- zeros in front count for nothing
zeros_value : (k : ℕ) (ds : List ℕ) → digits_value 10 (replicate k 48 ++ ds) ≡ digits_value 10 ds
zeros_value zero ds = refl
zeros_value (suc k) ds = zeros_value k ds

numerals : IsNumeralModel (AllDigits 10) (digits_value 10)
numerals = record { to = λ ds p. p; from = λ ds p. p; same = λ ds p. refl }

-- the digits behind `key-` are those of the place
place_in : (n : ℕ) → n < 1000000000000 → digits_value 10 (drop 4 (id_of n)) ≡ n
unfolding id_of
place_in n small = zeros_value (12 - length (decimal n)) (decimal n) ∙ digits_value-decimal numerals n (omega arith)

pub ids_differ : (one other : ℕ) → one < 1000000000000 → other < 1000000000000 → id_of one ≡ id_of other → one ≡ other
ids_differ one other a b e = sym (place_in one a) ∙ ap (λ (id : List ℕ). digits_value 10 (drop 4 id)) e ∙ place_in other b
