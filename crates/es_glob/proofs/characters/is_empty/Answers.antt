use Rattle.std.proofs.Common.{◌≡◌, ◌==◌, ◌↔◌, ℕ, List, [], Bool, IsTrue, length, sym, ap, ◌∙◌}
use Rattle.std.specs.Str.{chars, IsUtf8, encode_utf8_all}
use Rattle.std.proofs.lemmas.Bool.{eqb-true, eq-eqb}
use Rattle.std.proofs.lemmas.List.{nil_from_length}
use Rattle.std.proofs.lemmas.Str.{chars-nil, encodes-chars}
use Rattle.es_glob.proofs.characters.is_empty.Goals as goal

-- a text with no bytes is one with no characters
chars-none : (bs : List ℕ) (empty : Bool) → IsUtf8 bs → empty ≡ (length bs == 0) → IsTrue empty ↔ (chars bs ≡ [])
chars-none bs empty utf8 is = (
  λ h. ap chars (nil_from_length bs (eqb-true (length bs) 0 (sym is ∙ h))) ∙ chars-nil,
  λ none. is ∙ eq-eqb (length bs) 0 (ap length (sym (encodes-chars bs utf8) ∙ ap encode_utf8_all none)),
)

pub returns : goal.returns
returns c = chars-none c.args.text.now c.is_empty.result c.utf8.text c.is_empty.ensures
