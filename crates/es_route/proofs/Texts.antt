-- ASCII is a text.
use Rattle.std.proofs.Common.{◌≡◌, ℕ, ◌<◌, Bool, true, false, ◌&&◌, List, Some, None, refl, ap, ◌∙◌, arith}
use Rattle.std.specs.Prelude.{nat_le, if◌then◌else◌}
use Rattle.std.specs.List.{list_all}
use Rattle.std.specs.Str.{IsUtf8, is_utf8}
use Rattle.std.proofs.lemmas.Bool.Decides.{nat_tests}
use Rattle.std.proofs.lemmas.List.Elements.{All-weaker}
use Rattle.std.proofs.lemmas.List.Sums.{AllPass-from_list_all}
use Rattle.std.proofs.lemmas.Str.{IsUtf8-from_ascii, IsUtf8-from_is_utf8, is_utf8-from_IsUtf8}
use Rattle.std.proofs.lemmas.Str.Ascii.{IsAscii-from_all}
use Rattle.es_route.specs.Targets.{is_target}

low : (b : ℕ) → nat_le b 127 ≡ true → b < 128
low b e = grind (arith, nat_tests)

pub IsUtf8-from_low : (bytes : List ℕ) → list_all (λ b. nat_le b 127) bytes ≡ true → IsUtf8 bytes
IsUtf8-from_low bytes all =
    IsUtf8-from_ascii bytes (IsAscii-from_all bytes (All-weaker (λ b. nat_le b 127 ≡ true) (λ b. b < 128) low bytes (AllPass-from_list_all (λ b. nat_le b 127) bytes all)))

second : (a b : Bool) → (a && b) ≡ true → b ≡ true
second true b e = e
second false b e = cc

pub IsUtf8-from_target : (bytes : List ℕ) → is_target bytes ≡ true → IsUtf8 bytes
IsUtf8-from_target bytes is = IsUtf8-from_low bytes (second _ _ is)

-- ---- texts and what is none

utf8_at : (bytes : List ℕ) (b : Bool) → is_utf8 bytes ≡ b → ¬ (IsUtf8 bytes) → b ≡ false
utf8_at bytes true e not = absurd (not (IsUtf8-from_is_utf8 bytes e))
utf8_at bytes false e not = refl

pub is_utf8-false : (bytes : List ℕ) → ¬ (IsUtf8 bytes) → is_utf8 bytes ≡ false
is_utf8-false bytes not = utf8_at bytes (is_utf8 bytes) refl not

pub text_found : (bytes text found : List ℕ) → text ≡ bytes → IsUtf8 bytes → found ≡ text → Some found ≡ (if is_utf8 bytes then Some bytes else None)
text_found bytes text found e is f = rw (is_utf8-from_IsUtf8 bytes is) (ap Some (f ∙ e))

pub text_absent : (bytes : List ℕ) → ¬ (IsUtf8 bytes) → None ≡ (if is_utf8 bytes then Some bytes else None)
text_absent bytes not = rw (is_utf8-false bytes not)
