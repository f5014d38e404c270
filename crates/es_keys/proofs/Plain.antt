-- Ids are in UTF-8 and have no colon.
use Rattle.std.proofs.Common.{◌≡◌, ◌<◌, ◌/◌, ◌%◌, ℕ, zero, suc, ◌+◌, ◌-◌, Bool, true, false, not, cond, ltb, eqb, ◌&&◌, List, [], ◌∷◌, length, replicate, decimal, IsAscii, refl, ap, ◌∙◌, arith}
use Rattle.std.specs.List.{list_all, list_any}
use Rattle.std.specs.Cmp.Derive.{both_true}
use Rattle.std.specs.Fmt.{digits, digits_onto, digit_glyph}
use Rattle.std.proofs.lemmas.Bool.{and_parts, ltb-true, lt-ltb, ne_eqb, not-true}
use Rattle.std.proofs.lemmas.List.Folds.{list_all-append}
use Rattle.std.proofs.lemmas.Str.{IsUtf8-from_ascii}
use Rattle.es_keys.specs.Keys.{id_of, key_record}
use Rattle.es_keys.specs.Laws.{IdsPlain, MadeBack}
use Rattle.es_keys.proofs.Sent.{sent_back}

-- an ASCII character that is no colon
abbrev plain : ℕ → Bool
plain b = ltb b 128 && not (eqb b 58)

ascii_of : (bytes : List ℕ) → list_all plain bytes ≡ true → IsAscii bytes
ascii_of [] e i = omega arith
ascii_of (b ∷ bytes) e zero = ltb-true b 128 (and_parts (ltb b 128) (not (eqb b 58)) (and_parts (plain b) (list_all plain bytes) e).0).0
ascii_of (b ∷ bytes) e (suc i) = ascii_of bytes (and_parts (plain b) (list_all plain bytes) e).1 i

free_of_colon : (bytes : List ℕ) → list_all plain bytes ≡ true → list_any (λ b. eqb b 58) bytes ≡ false
free_of_colon [] e = refl
free_of_colon (b ∷ bytes) e =
    let parts = and_parts (plain b) (list_all plain bytes) e in
    rw (not-true (eqb b 58) (and_parts (ltb b 128) (not (eqb b 58)) parts.0).1, free_of_colon bytes parts.1) refl

-- ---- digits

glyph_plain : (d : ℕ) → d < 10 → plain (digit_glyph false d) ≡ true
glyph_plain d h = rw (lt-ltb d 10 h) (both_true (lt-ltb (48 + d) 128 (omega arith)) (ap not (ne_eqb (48 + d) 58 (λ e. omega arith))))

either_plain : (b : Bool) (one other : List ℕ) → list_all plain one ≡ true → list_all plain other ≡ true → list_all plain (cond b one other) ≡ true
either_plain true one other p q = p
either_plain false one other p q = q

onto_plain : (k n : ℕ) (acc : List ℕ) → list_all plain acc ≡ true → list_all plain (digits_onto k 10 false n acc) ≡ true
onto_plain zero n acc e = e
onto_plain (suc k) n acc e =
    let digit : plain (digit_glyph false (n % 10)) ≡ true = glyph_plain (n % 10) (omega arith) in
    let more : list_all plain (digit_glyph false (n % 10) ∷ acc) ≡ true = both_true digit e in
    either_plain (eqb (n / 10) 0) (digit_glyph false (n % 10) ∷ acc) (digits_onto k 10 false (n / 10) (digit_glyph false (n % 10) ∷ acc)) more
    (onto_plain k (n / 10) (digit_glyph false (n % 10) ∷ acc) more)

decimal_plain : (n : ℕ) → list_all plain (decimal n) ≡ true
unfolding digits
decimal_plain n = onto_plain 64 n [] refl

zeros_plain : (k : ℕ) → list_all plain (replicate k 48) ≡ true
zeros_plain zero = refl
zeros_plain (suc k) = zeros_plain k

-- ---- ids

id_plain : (place : ℕ) → list_all plain (id_of place) ≡ true
unfolding id_of
id_plain place =
    list_all-append plain (replicate (12 - length (decimal place)) 48) (decimal place) ∙ both_true (zeros_plain (12 - length (decimal place))) (decimal_plain place)

pub plain_ids : IdsPlain
plain_ids place = (free_of_colon (id_of place) (id_plain place), IsUtf8-from_ascii (id_of place) (ascii_of (id_of place) (id_plain place)))

pub made_back : MadeBack
unfolding key_record
made_back owner limits asked place moment secret text = let found = plain_ids place in sent_back (id_of place) secret found.1 text found.0
