-- What is gathered of the bytes in which two lists differ.
use Rattle.std.proofs.Common.{◌≡◌, ◌<◌, ◌+◌, ℕ, Bool, List, [], ◌∷◌, ◌∙◌, suc, length, drop, get_or, ◌==◌, ◌&&◌, bytes_eq, refl, sym, ap, arith}
use Rattle.std.specs.Int.RustNames.{bit_or, bit_xor}
use Rattle.std.specs.Int.Bits.{or_zero_l, xor_add_and, xor_self}
use Rattle.std.proofs.lemmas.Nat.{le_or_l, le_or_r, and_le_l, and_le_r}
use Rattle.std.proofs.lemmas.List.{at_drop_more}
use Rattle.std.proofs.Math.Bool.{and_assoc}
use Rattle.std.proofs.lemmas.Bool.Decides.{nat_tests}
use Rattle.es_cred.specs.Digest.{differing_from}

-- two bytes differ in no bit only if they are equal
differs_not : (a b : ℕ) → bit_xor a b ≡ 0 → a ≡ b
differs_not a b none = omega (arith, none, xor_add_and a b, and_le_l a b, and_le_r a b)

-- nothing is gathered exactly where nothing was and the next two bytes are equal
pub gathered : (d a b : ℕ) → (bit_or d (bit_xor a b) == 0) ≡ ((d == 0) && (a == b))
gathered d a b = grind (arith, nat_tests, differs_not a b, xor_self, or_zero_l, le_or_l d (bit_xor a b), le_or_r d (bit_xor a b))

-- one byte of each more is looked at
pub gathers : (d at : ℕ) (xs ys : List ℕ) → at < length xs → at < length ys
    → differing_from d (drop at xs) (drop at ys) ≡ differing_from (bit_or d (bit_xor (get_or xs at 0) (get_or ys at 0))) (drop (at + 1) xs) (drop (at + 1) ys)
gathers d at xs ys in_xs in_ys =
    at_drop_more (λ zs. differing_from d zs (drop at ys)) xs at 0 in_xs ∙ at_drop_more (λ zs. differing_from d (get_or xs at 0 ∷ drop (at + 1) xs) zs) ys at 0 in_ys

-- of two lists of one length nothing is gathered exactly where they are equal
pub none_gathered : (d : ℕ) (xs ys : List ℕ) → length xs ≡ length ys → (differing_from d xs ys == 0) ≡ ((d == 0) && bytes_eq xs ys)
none_gathered d [] [] same = grind arith
none_gathered d [] (y ∷ ys) same = absurd (omega (arith, same))
none_gathered d (x ∷ xs) [] same = absurd (omega (arith, same))
none_gathered d (x ∷ xs) (y ∷ ys) same =
    none_gathered (bit_or d (bit_xor x y)) xs ys (omega (arith, same)) ∙ ap (λ z. z && bytes_eq xs ys) (gathered d x y) ∙ and_assoc (d == 0) (x == y) (bytes_eq xs ys)
