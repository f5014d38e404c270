-- One token more.
use Rattle.std.proofs.Common.{◌≡◌, ℕ, List, [], ◌∷◌, ◌++◌, map, Bool, true, false, refl, ap, ◌∙◌, append_assoc}
use Rattle.json.specs.Token.{Token, key}
use Rattle.json.specs.Print.{print, begins, ends, ends_value, separator, token_text, quoted}
use Rattle.json.specs.Written.{Written}
use Rattle.json.proofs.Printed.Tokens.{print_from_push, ends_push}
use Rattle.es_tree.specs.declared.tree.Tree.{Tree}
use Rattle.es_tree.specs.declared.tree.Tree as tree
use Rattle.es_tree.specs.declared.tree.Named.{Named}
use Rattle.es_tree.specs.Text.{after_commas, with_commas, text_of, member_text}
use Rattle.es_tree.specs.Adds.{comma_if, more_texts, AddsText}
use Rattle.es_tree.proofs.Texts.{text_of-List, text_of-Object}

after_commas-more_texts : (ts : List (List ℕ)) → after_commas ts ≡ more_texts true ts
after_commas-more_texts [] = refl
after_commas-more_texts (t ∷ ts) = ap (λ s. 44 ∷ (t ++ s)) (after_commas-more_texts ts)

with_commas-more_texts : (ts : List (List ℕ)) → with_commas ts ≡ more_texts false ts
with_commas-more_texts [] = refl
with_commas-more_texts (t ∷ ts) = ap (λ s. t ++ s) (after_commas-more_texts ts)

pub text-List : (ts : List Tree) → text_of (tree.List ts) ≡ 91 ∷ (more_texts false (map text_of ts) ++ 93 ∷ [])
text-List ts = text_of-List ts ∙ ap (λ s. 91 ∷ (s ++ 93 ∷ [])) (with_commas-more_texts (map text_of ts))

pub text-Object : (ms : List (Named Tree)) → text_of (tree.Object ms) ≡ 123 ∷ (more_texts false (map member_text ms) ++ 125 ∷ [])
text-Object ms = text_of-Object ms ∙ ap (λ s. 123 ∷ (s ++ 125 ∷ [])) (with_commas-more_texts (map member_text ms))

-- a token more
pub print_push : (old new : List Token) (t : Token) → new ≡ old ++ t ∷ [] → print new ≡ print old ++ (separator (ends_value old) t ++ token_text t)
print_push old new t e = ap print e ∙ print_from_push false old t

pub ends_value_push : (old new : List Token) (t : Token) → new ≡ old ++ t ∷ [] → ends_value new ≡ ends t
ends_value_push old new t e = ap ends_value e ∙ ends_push false old t

separator_of : (b : Bool) (t : Token) → begins t ≡ true → separator b t ≡ comma_if b
separator_of true t e = rw e
separator_of false t e = refl

separator-closing : (b : Bool) (t : Token) → begins t ≡ false → separator b t ≡ []
separator-closing true t e = rw e
separator-closing false t e = refl

pub adds_token : (old new : Written) (t : Token) (s : List ℕ) → new.tokens ≡ old.tokens ++ t ∷ [] → new.before ≡ old.before
    → begins t ≡ true → ends t ≡ true → token_text t ≡ s → AddsText old new s
adds_token old new t s e b begun ended is = record {
  text = print_push old.tokens new.tokens t e ∙ ap (λ u. print old.tokens ++ (u ++ token_text t)) (separator_of (ends_value old.tokens) t begun) ∙ ap (λ u. print old.tokens ++ (comma_if (ends_value old.tokens) ++ u)) is;
  ends = ends_value_push old.tokens new.tokens t e ∙ ended;
  before = b;
}

pub print_closing : (old new : List Token) (t : Token) → new ≡ old ++ t ∷ [] → begins t ≡ false → print new ≡ print old ++ token_text t
print_closing old new t e closes = print_push old new t e ∙ ap (λ u. print old ++ (u ++ token_text t)) (separator-closing (ends_value old) t closes)

regroup : (p c o a z : List ℕ) → ((p ++ (c ++ o)) ++ a) ++ z ≡ p ++ (c ++ (o ++ (a ++ z)))
regroup p c o a z = simp append_assoc

-- what stands in brackets is one value
pub adds_bracketed : (w0 w1 w2 w3 : Written) (opening closing : Token) (inner : List ℕ)
    → w1.tokens ≡ w0.tokens ++ opening ∷ [] → w1.before ≡ w0.before → begins opening ≡ true → ends opening ≡ false
    → print w2.tokens ≡ print w1.tokens ++ inner → w2.before ≡ w1.before
    → w3.tokens ≡ w2.tokens ++ closing ∷ [] → w3.before ≡ w2.before → begins closing ≡ false → ends closing ≡ true
    → AddsText w0 w3 (token_text opening ++ (inner ++ token_text closing))
adds_bracketed w0 w1 w2 w3 opening closing inner e1 b1 begun goes e2 b2 e3 b3 closes ended = record {
  text =
      print_closing w2.tokens w3.tokens closing e3 closes
      ∙ ap (λ u. u ++ token_text closing) (e2 ∙ ap (λ u. u ++ inner) (print_push w0.tokens w1.tokens opening e1 ∙ ap (λ u. print w0.tokens ++ (u ++ token_text opening)) (separator_of (ends_value w0.tokens) opening begun)))
      ∙ regroup (print w0.tokens) (comma_if (ends_value w0.tokens)) (token_text opening) inner (token_text closing);
  ends = ends_value_push w2.tokens w3.tokens closing e3 ∙ ended;
  before = b3 ∙ b2 ∙ b1;
}

regroup_item : (p c t more : List ℕ) → p ++ (c ++ (t ++ more)) ≡ (p ++ (c ++ t)) ++ more
regroup_item p c t more = simp append_assoc

-- an item of a list, and those after it
pub adds_item : (old new : Written) (s : List ℕ) (more : List (List ℕ)) → AddsText old new s
    → print old.tokens ++ more_texts (ends_value old.tokens) (s ∷ more) ≡ print new.tokens ++ more_texts (ends_value new.tokens) more
adds_item old new s more a = rw (a.text, a.ends) (regroup_item (print old.tokens) (comma_if (ends_value old.tokens)) s (more_texts true more))

-- a name and its value are one text
pub adds_member : (w0 w1 w2 : Written) (name value : List ℕ) → w1.tokens ≡ w0.tokens ++ key name ∷ [] → w1.before ≡ w0.before → AddsText w1 w2 value
    → AddsText w0 w2 (quoted name ++ 58 ∷ value)
adds_member w0 w1 w2 name value e b a = record {
  text =
      a.text ∙ ap (λ c. print w1.tokens ++ (comma_if c ++ value)) (ends_value_push w0.tokens w1.tokens (key name) e)
      ∙ ap (λ u. u ++ value) (print_push w0.tokens w1.tokens (key name) e ∙ ap (λ u. print w0.tokens ++ (u ++ (quoted name ++ 58 ∷ []))) (separator_of (ends_value w0.tokens) (key name) refl))
      ∙ (simp append_assoc);
  ends = a.ends;
  before = a.before ∙ b;
}
