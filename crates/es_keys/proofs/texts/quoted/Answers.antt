use Rattle.std.proofs.Common.{◌≡◌, ◌∙◌, ap, ap₂, [], ◌∷◌, ◌++◌, List, ℕ}
use Rattle.json.specs.Token.{Token, string}
use Rattle.json.specs.Print.{print}
use Rattle.es_keys.proofs.Strings.{print-string}
use Rattle.es_keys.proofs.texts.quoted.Goals as goal

pub returns : goal.returns
returns c =
    let tokens : c.string.new.self.tokens ≡ string c.args.text.now ∷ [] = c.in_ok-string.ensures.ok ∙ ap (λ (ts : List Token). ts ++ string c.args.text.now ∷ []) c.new-out.ensures.tokens in
    let before : c.string.new.self.before ≡ [] = c.string.ensures.room.0 ∙ c.new-out.ensures.before ∙ c.in_ok-with_capacity.ensures.items in
    let items : c.into_inner.result.items ≡ print (string c.args.text.now ∷ []) = c.into_inner.ensures.items ∙ ap₂ (λ (x y : List ℕ). x ++ y) before (ap print tokens) in
    c.from_string.ensures ∙ ap (λ v. v.items) c.in-Ok.ensures.ok ∙ items ∙ print-string c.args.text.now
