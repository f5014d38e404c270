-- The bytes of a text in UTF-8.
use Rattle.std.proofs.Common.{◌≡◌, ◌<◌, ◌+◌, ◌/◌, ◌%◌, ℕ, zero, suc, Bool, true, false, cond, ltb, List, [], ◌∷◌, ◌++◌, inl, inr, refl, subst, arith}
use Rattle.std.specs.Str.{IsUtf8}
use Rattle.std.proofs.lemmas.Bool.{and_parts, ltb-true}
use Rattle.std.proofs.Math.Utf8.{scalar, scalars, encode, encodes, scalar_cases}
use Rattle.base64.specs.GeneralPurpose.{IsBytes}

no_bytes : IsBytes []
no_bytes i = omega arith

with_byte : (b : ℕ) (bytes : List ℕ) → b < 256 → IsBytes bytes → IsBytes (b ∷ bytes)
with_byte b bytes h rest zero = h
with_byte b bytes h rest (suc i) = rest i

joined : (bytes others : List ℕ) → IsBytes bytes → IsBytes others → IsBytes (bytes ++ others)
joined [] others h k = k
joined (b ∷ bytes) others h k = with_byte b (bytes ++ others) (h 0) (joined bytes others (λ i. h (suc i)) k)

below : (c : ℕ) → scalar c ≡ true → c < 1114112
below c e = elim (scalar_cases c e) [
  | inl low ↦ omega arith
  | inr high ↦ omega (arith, high.1)
]

-- a byte behind the first of a character
later_byte : (n : ℕ) (bytes : List ℕ) → IsBytes bytes → IsBytes ((128 + n % 64) ∷ bytes)
later_byte n bytes rest = with_byte (128 + n % 64) bytes (omega arith) rest

character_bytes : (c : ℕ) → scalar c ≡ true → IsBytes (encode c)
unfolding encode
character_bytes c e = by (ltb c 128) (ltb c 2048) (ltb c 65536) refl refl refl
  where
    by : (one two three : Bool) → ltb c 128 ≡ one → ltb c 2048 ≡ two → ltb c 65536 ≡ three
        → IsBytes (cond one (c ∷ []) (cond two ((192 + c / 64) ∷ (128 + c % 64) ∷ []) (cond three ((224 + c / 4096) ∷ (128 + c / 64 % 64) ∷ (128 + c % 64) ∷ []) ((240 + c / 262144) ∷ (128 + c / 4096 % 64) ∷ (128 + c / 64 % 64) ∷ (128 + c % 64) ∷ []))))
    by true two three h k l = let small = ltb-true c 128 h in with_byte c [] (omega arith) no_bytes
    by false true three h k l = let small = ltb-true c 2048 k in with_byte (192 + c / 64) ((128 + c % 64) ∷ []) (omega arith) (later_byte c [] no_bytes)
    by false false true h k l = let small = ltb-true c 65536 l in with_byte (224 + c / 4096) ((128 + c / 64 % 64) ∷ (128 + c % 64) ∷ []) (omega arith) (later_byte (c / 64) ((128 + c % 64) ∷ []) (later_byte c [] no_bytes))
    by false false false h k l = let small = below c e in with_byte (240 + c / 262144) ((128 + c / 4096 % 64) ∷ (128 + c / 64 % 64) ∷ (128 + c % 64) ∷ []) (omega arith) (later_byte (c / 4096) ((128 + c / 64 % 64) ∷ (128 + c % 64) ∷ []) (later_byte (c / 64) ((128 + c % 64) ∷ []) (later_byte c [] no_bytes)))

characters_bytes : (cs : List ℕ) → scalars cs ≡ true → IsBytes (encodes cs)
characters_bytes [] e = no_bytes
characters_bytes (c ∷ cs) e =
    let parts = and_parts (scalar c) (scalars cs) e in
    joined (encode c) (encodes cs) (character_bytes c parts.0) (characters_bytes cs parts.1)

pub text_bytes : (text : List ℕ) → IsUtf8 text → IsBytes text
text_bytes text utf8 = subst IsBytes utf8.1.1 (characters_bytes utf8.0 utf8.1.0)
