-- What is kept of a secret.
use Rattle.std.specs.Prelude.{ℕ, List, [], ◌∷◌, ◌++◌}
use Rattle.std.specs.Int.RustNames.{bit_or, bit_xor}
use Rattle.sha2.specs.Sha256.{sha256}

-- SHA-256 (FIPS 180-4) of the name, a zero byte and the secret
unfoldable pub digest_of : List ℕ → List ℕ → List ℕ
digest_of name secret = sha256 (name ++ 0 ∷ secret)

-- the bits in which two lists differ byte by byte, all gathered into these
abbrev pub differing_from : ℕ → List ℕ → List ℕ → ℕ
differing_from bits [] others = bits
differing_from bits (b ∷ bytes) [] = bits
differing_from bits (b ∷ bytes) (c ∷ others) = differing_from (bit_or bits (bit_xor b c)) bytes others
