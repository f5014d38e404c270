-- Texts with a colon and without.
use Rattle.std.proofs.Common.{◌≡◌, ◌<◌, ℕ, ◌+◌, List, [], ◌∷◌, length, Bool, true, false, ◌||◌, eqb, cond, not, refl, sym, arith, suc}
use Rattle.std.specs.List.{list_any, position_or_len, before_first, after_first}
use Rattle.std.specs.Str.{is_utf8, IsUtf8}
use Rattle.std.proofs.lemmas.Str.{IsUtf8-from_is_utf8, is_utf8-from_IsUtf8}
use Rattle.es_cred.specs.declared.credentials.Credentials.TheVariants.{Malformed}
use Rattle.es_cred.specs.declared.credentials.Scheme.{Scheme}
use Rattle.es_cred.specs.Credentials.{pair_in, said_as}

utf8_at : (bytes : List ℕ) (b : Bool) → is_utf8 bytes ≡ b → ¬ (IsUtf8 bytes) → b ≡ false
utf8_at bytes true e not = absurd (not (IsUtf8-from_is_utf8 bytes e))
utf8_at bytes false e not = refl

is_utf8-false : (bytes : List ℕ) → ¬ (IsUtf8 bytes) → is_utf8 bytes ≡ false
is_utf8-false bytes not = utf8_at bytes (is_utf8 bytes) refl not

module _ {A : Type 0} (p : A → Bool) where
  any_within : (xs : List A) → position_or_len p xs < length xs → list_any p xs ≡ true
  any_within [] h = absurd (omega arith)
  any_within (x ∷ xs) h = elim (p x) as (λ b. cond (not b) (1 + position_or_len p xs) 0 < suc (length xs) → (b || list_any p xs) ≡ true) [
    | true ↦ λ h. refl
    | false ↦ λ h. any_within xs (omega arith)
  ] h

  none_at_end : (xs : List A) → position_or_len p xs ≡ length xs → list_any p xs ≡ false
  none_at_end [] h = refl
  none_at_end (x ∷ xs) h = elim (p x) as (λ b. cond (not b) (1 + position_or_len p xs) 0 ≡ suc (length xs) → (b || list_any p xs) ≡ false) [
    | true ↦ λ h. absurd (omega arith)
    | false ↦ λ h. none_at_end xs (omega arith)
  ] h

-- what is no text says nothing
pub no_text : (scheme : Scheme) (bytes : List ℕ) → ¬ (IsUtf8 bytes) → Malformed ≡ pair_in scheme bytes
no_text scheme bytes not = rw (is_utf8-false bytes not)

-- nor does a text without a colon
pub no_colon : (scheme : Scheme) (bytes text : List ℕ) → text ≡ bytes → IsUtf8 bytes → position_or_len (λ b. eqb b 58) text ≡ length text → Malformed ≡ pair_in scheme bytes
no_colon scheme bytes text e utf8 end =
    let none : position_or_len (λ b. eqb b 58) bytes ≡ length bytes = rw (sym e) end in
    rw (is_utf8-from_IsUtf8 bytes utf8, none_at_end (λ b. eqb b 58) bytes none)

-- the first colon ends the name
pub first_colon : (scheme : Scheme) (bytes text name secret : List ℕ) → text ≡ bytes → IsUtf8 bytes → position_or_len (λ b. eqb b 58) text < length text → name ≡ before_first (λ b. eqb b 58) text → secret ≡ after_first (λ b. eqb b 58) text → said_as scheme name secret ≡ pair_in scheme bytes
first_colon scheme bytes text name secret e utf8 within n s =
    let some : position_or_len (λ b. eqb b 58) bytes < length bytes = rw (sym e) within in
    rw (n, s, e, is_utf8-from_IsUtf8 bytes utf8, any_within (λ b. eqb b 58) bytes some)
