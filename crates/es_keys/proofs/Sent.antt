-- What a client sends of a key says the key's id and secret.
use Rattle.std.proofs.Common.{◌≡◌, ℕ, zero, suc, ◌+◌, ◌/◌, Bool, true, false, not, eqb, List, [], ◌∷◌, ◌++◌, length, drop, slice_index, codes, Some, IsAscii, refl, ap, subst, ◌∙◌, arith}
use Rattle.std.specs.List.{list_all, list_any, position_or_len}
use Rattle.std.specs.Result.{result_ok}
use Rattle.std.specs.Str.{IsUtf8}
use Rattle.std.proofs.lemmas.Bool.{and_parts, or_parts, not-true}
use Rattle.std.proofs.lemmas.List.{take_at}
use Rattle.std.proofs.lemmas.Str.{IsUtf8-append, IsUtf8-from_ascii, is_utf8-from_IsUtf8}
use Rattle.base64.specs.Engines.{standard}
use Rattle.base64.specs.GeneralPurpose.{encode_of, decode_of}
use Rattle.base64.specs.Rfc4648.{encode, encode_symbols}
use Rattle.base64.proofs.EngineFacts.{decode_of-encode_of}
use Rattle.es_cred.specs.declared.credentials.Credentials.TheVariants.{Key}
use Rattle.es_cred.specs.declared.credentials.Scheme.TheVariants.{ApiKey}
use Rattle.es_cred.specs.Credentials.{credentials_of, scheme_of, skip_spaces, pair_if, pair_in, token_of}
use Rattle.es_keys.specs.Laws.{EncodedBack}
use Rattle.es_keys.proofs.Bytes.{text_bytes}

-- ---- no token begins with a space

no_space_at : (table : List ℕ) → list_all (λ b. not (eqb b 32)) table ≡ true → (i : ℕ) → eqb (slice_index table i) 32 ≡ false
no_space_at [] e zero = refl
no_space_at [] e (suc i) = refl
no_space_at (b ∷ table) e zero = not-true (eqb b 32) (and_parts _ _ e).0
no_space_at (b ∷ table) e (suc i) = no_space_at table (and_parts _ _ e).1 i

kept_whole : (b : ℕ) (bytes : List ℕ) → eqb b 32 ≡ false → skip_spaces (b ∷ bytes) ≡ b ∷ bytes
kept_whole b bytes e = rw e refl

encoding_whole : (table : List ℕ) (pad : ℕ) (padding : Bool) → list_all (λ b. not (eqb b 32)) table ≡ true → (a : ℕ) (bytes : List ℕ)
    → skip_spaces (encode table pad padding (a ∷ bytes)) ≡ encode table pad padding (a ∷ bytes)
unfolding encode_symbols
encoding_whole table pad padding e a [] = kept_whole (slice_index table (a / 4)) _ (no_space_at table e (a / 4))
encoding_whole table pad padding e a (b ∷ []) = kept_whole (slice_index table (a / 4)) _ (no_space_at table e (a / 4))
encoding_whole table pad padding e a (b ∷ c ∷ rest) = kept_whole (slice_index table (a / 4)) _ (no_space_at table e (a / 4))

token_whole : (id secret : List ℕ) → skip_spaces (token_of id secret) ≡ token_of id secret
token_whole [] secret = encoding_whole standard.encode_table standard.padding.value standard.config.encode_padding refl 58 secret
token_whole (b ∷ id) secret = encoding_whole standard.encode_table standard.padding.value standard.config.encode_padding refl b (id ++ (codes ":" ++ secret))

-- ---- the field

field_says : (token : List ℕ) → credentials_of (Some (codes "ApiKey " ++ token)) ≡ pair_if ApiKey (result_ok (decode_of standard (skip_spaces token)))
unfolding credentials_of scheme_of
field_says token = refl

-- ---- the pair

colon_ascii : IsAscii (58 ∷ [])
colon_ascii zero = omega arith
colon_ascii (suc i) = omega arith

colon_at : (id secret : List ℕ) → list_any (λ b. eqb b 58) id ≡ false → position_or_len (λ b. eqb b 58) (id ++ (58 ∷ secret)) ≡ length id
colon_at [] secret none = refl
colon_at (b ∷ id) secret none =
    let parts = or_parts (eqb b 58) (list_any (λ b. eqb b 58) id) none in
    rw (parts.0, colon_at id secret parts.1) (omega arith)

has_colon : (id secret : List ℕ) → list_any (λ b. eqb b 58) id ≡ false → list_any (λ b. eqb b 58) (id ++ (58 ∷ secret)) ≡ true
has_colon [] secret none = refl
has_colon (b ∷ id) secret none =
    let parts = or_parts (eqb b 58) (list_any (λ b. eqb b 58) id) none in
    rw (parts.0, has_colon id secret parts.1) refl

behind : (id secret : List ℕ) → drop (length id + 1) (id ++ (58 ∷ secret)) ≡ secret
behind [] secret = refl
behind (b ∷ id) secret =
    let e : suc (length id) + 1 ≡ suc (length id + 1) = omega arith in
    rw e (behind id secret)

pair_says : (id secret : List ℕ) → IsUtf8 (id ++ (58 ∷ secret)) → list_any (λ b. eqb b 58) id ≡ false → pair_in ApiKey (id ++ (58 ∷ secret)) ≡ Key id secret
pair_says id secret text none =
    rw (is_utf8-from_IsUtf8 (id ++ (58 ∷ secret)) text, has_colon id secret none, colon_at id secret none, take_at id (58 ∷ secret) (length id) refl, behind id secret) refl

-- ---- together

token_says : (id secret text : List ℕ) → text ≡ id ++ (58 ∷ secret) → IsUtf8 text → list_any (λ b. eqb b 58) id ≡ false → pair_if ApiKey (result_ok (decode_of standard (encode_of standard text))) ≡ Key id secret
token_says id secret text e utf8 none =
    rw (decode_of-encode_of standard text refl (text_bytes text utf8), e) (pair_says id secret (subst IsUtf8 e utf8) none)

pub sent_back : EncodedBack
sent_back id secret id_text secret_text none =
    field_says (token_of id secret)
    ∙ ap (λ (token : List ℕ). pair_if ApiKey (result_ok (decode_of standard token))) (token_whole id secret)
    ∙ token_says id secret (id ++ (codes ":" ++ secret)) refl (IsUtf8-append id (58 ∷ secret) id_text (IsUtf8-append (58 ∷ []) secret (IsUtf8-from_ascii (58 ∷ []) colon_ascii) secret_text)) none
