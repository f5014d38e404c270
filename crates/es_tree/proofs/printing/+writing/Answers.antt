use Rattle.std.proofs.Common.{ap₂, ◌&&◌, rules, ◌≡◌, ◌++◌, map, [], ◌∷◌, drop, Bool, true, false, ◌+◌, refl, sym, ap, subst, ◌∙◌, arith}
use Rattle.std.proofs.lemmas.List.{drop_more}
use Rattle.json.specs.Token.{begin_array, end_array, begin_object, end_object, key, string, number, boolean, null}
use Rattle.json.specs.Print.{print, ends_value, token_text}
use Rattle.std.specs.Fmt.{signed_decimal}
use Rattle.es_tree.specs.Text.{text_of, member_text}
use Rattle.es_tree.specs.Adds.{more_texts, AddsText}
use Rattle.es_tree.specs.declared.tree.Tree.{Bool as TreeBool}
use Rattle.std.specs.List.{list_all}
use Rattle.std.proofs.lemmas.List.Folds.{list_all_more}
use Rattle.es_tree.specs.Order.{is_fitting, is_ordered}
use Rattle.es_tree.proofs.Induction.{is_fitting-List, is_fitting-Object, is_ordered-List, is_ordered-Object}
use Rattle.es_tree.proofs.Texts.{text_of-Null, text_of-true, text_of-false, text_of-Int, text_of-Text}
use Rattle.es_tree.proofs.Adding.{text-List, text-Object, ends_value_push, adds_token, adds_bracketed, adds_item, adds_member}
use Rattle.es_tree.proofs.printing.+writing.Goals as goal

token_text-boolean : (b : Bool) → token_text (boolean b) ≡ text_of (TreeBool b)
token_text-boolean true = sym text_of-true
token_text-boolean false = sym text_of-false

pub write_tree-returns-in_ok-null-in-Null-clause-text : goal.write_tree-returns-in_ok-null-in-Null-clause-text
write_tree-returns-in_ok-null-in-Null-clause-text t c =
    let e : c.null.new.self.tokens ≡ c.args.out.now.tokens ++ null ∷ [] = search rules in
    let is : token_text null ≡ text_of c.args.tree.now = rw (c.in-Null.is, text_of-Null) in
    adds_token c.args.out.now c.null.new.self null _ e c.null.ensures.room.0 refl refl is

pub write_tree-returns-in_ok-boolean-in-Bool-clause-text : goal.write_tree-returns-in_ok-boolean-in-Bool-clause-text
write_tree-returns-in_ok-boolean-in-Bool-clause-text t c =
    let e : c.boolean.new.self.tokens ≡ c.args.out.now.tokens ++ boolean c.in-Bool.truth ∷ [] = search rules in
    let is : token_text (boolean c.in-Bool.truth) ≡ text_of c.args.tree.now = token_text-boolean c.in-Bool.truth ∙ ap text_of (sym c.in-Bool.is) in
    adds_token c.args.out.now c.boolean.new.self (boolean c.in-Bool.truth) _ e c.boolean.ensures.room.0 refl refl is

pub write_tree-returns-in_ok-i64-in-Int-clause-text : goal.write_tree-returns-in_ok-i64-in-Int-clause-text
write_tree-returns-in_ok-i64-in-Int-clause-text t c =
    let e : c.i64.new.self.tokens ≡ c.args.out.now.tokens ++ number (signed_decimal c.in-Int.number) ∷ [] = search rules in
    let is : signed_decimal c.in-Int.number ≡ text_of c.args.tree.now = rw (c.in-Int.is, text_of-Int c.in-Int.number) in
    adds_token c.args.out.now c.i64.new.self (number (signed_decimal c.in-Int.number)) _ e c.i64.ensures.room.0 refl refl is

pub write_tree-returns-in_ok-string-in-Text-clause-text : goal.write_tree-returns-in_ok-string-in-Text-clause-text
write_tree-returns-in_ok-string-in-Text-clause-text t c =
    let e : c.string.new.self.tokens ≡ c.args.out.now.tokens ++ string c.text.result.now ∷ [] = search rules in
    let is : token_text (string c.text.result.now) ≡ text_of c.args.tree.now = rw (c.in-Text.is, text_of-Text c.in-Text.text, c.text.ensures) in
    adds_token c.args.out.now c.string.new.self (string c.text.result.now) _ e c.string.ensures.room.0 refl refl is

pub write_tree-returns-in_ok-end_array-in-List-clause-text : goal.write_tree-returns-in_ok-end_array-in-List-clause-text
write_tree-returns-in_ok-end_array-in-List-clause-text t c =
    let w0 = c.args.out.now in
    let w1 = c.begin_array.new.self in
    let w2 = c.write_items.new.out in
    let w3 = c.end_array.new.self in
    let inner = more_texts false (map text_of c.in-List.items) in
    let opened : w1.tokens ≡ w0.tokens ++ begin_array ∷ [] = search rules in
    let closed : w3.tokens ≡ w2.tokens ++ end_array ∷ [] = search rules in
    let written : print w2.tokens ≡ print w1.tokens ++ inner =
    c.in_ok-write_items-in-List.ensures.text ∙ ap (λ b. print w1.tokens ++ more_texts b (map text_of c.as_slice.result.now)) (ends_value_push w0.tokens w1.tokens begin_array opened)
    ∙ ap (λ ts. print w1.tokens ++ more_texts false (map text_of ts)) c.as_slice.ensures in
    let is : text_of c.args.tree.now ≡ 91 ∷ (inner ++ 93 ∷ []) = ap text_of c.in-List.is ∙ text-List c.in-List.items in
    subst (AddsText w0 w3) (sym is) (adds_bracketed w0 w1 w2 w3 begin_array end_array inner opened c.begin_array.ensures.room.0 refl refl written c.in_ok-write_items-in-List.ensures.before closed c.end_array.ensures.room.0 refl refl)

pub write_tree-returns-in_ok-end_object-in-Object-clause-text : goal.write_tree-returns-in_ok-end_object-in-Object-clause-text
write_tree-returns-in_ok-end_object-in-Object-clause-text t c =
    let w0 = c.args.out.now in
    let w1 = c.begin_object.new.self in
    let w2 = c.write_members.new.out in
    let w3 = c.end_object.new.self in
    let inner = more_texts false (map member_text c.in-Object.members) in
    let opened : w1.tokens ≡ w0.tokens ++ begin_object ∷ [] = search rules in
    let closed : w3.tokens ≡ w2.tokens ++ end_object ∷ [] = search rules in
    let written : print w2.tokens ≡ print w1.tokens ++ inner =
    c.in_ok-write_members-in-Object.ensures.text ∙ ap (λ b. print w1.tokens ++ more_texts b (map member_text c.in-Object.members)) (ends_value_push w0.tokens w1.tokens begin_object opened) in
    let is : text_of c.args.tree.now ≡ 123 ∷ (inner ++ 125 ∷ []) = ap text_of c.in-Object.is ∙ text-Object c.in-Object.members in
    subst (AddsText w0 w3) (sym is) (adds_bracketed w0 w1 w2 w3 begin_object end_object inner opened c.begin_object.ensures.room.0 refl refl written c.in_ok-write_members-in-Object.ensures.before closed c.end_object.ensures.room.0 refl refl)

pub write_members-loop-member-preserved : goal.write_members-loop-member-preserved
write_members-loop-member-preserved t c =
    let l = c.loop-member in
    let w0 = l.out in
    let w1 = c.key.new.self in
    let w2 = c.write_tree.new.out in
    let ms = c.as_slice-member-items.result.now in
    let m = c.member-item.result in
    let more = drop (l.member-index + 1) ms in
    let here : drop l.member-index ms ≡ m ∷ more = drop_more ms l.member-index m (omega arith) ∙ ap (λ y. y ∷ more) (sym c.member-item.is) in
    let named : w1.tokens ≡ w0.tokens ++ key m.name ∷ [] = rw (← c.text.ensures) (search rules) in
    let added = adds_member w0 w1 w2 m.name (text_of m.value) named c.key.ensures.room.0 c.in_ok-write_tree.ensures.text in (
      sym (ap (λ ys. print w0.tokens ++ more_texts (ends_value w0.tokens) (map member_text ys)) here ∙ adds_item w0 w2 (member_text m) (map member_text more) added) ∙ l.invariant.0,
      added.before ∙ l.invariant.1,
      list_all_more (λ y. is_fitting y.value) ms l.member-index m (omega arith)
          ∙ ap₂ (λ a b. a && b) l.invariant.2 (ap (λ y. is_fitting y.value) (sym c.member-item.is) ∙ c.in_ok-write_tree.ensures.fits),
      list_all_more (λ y. is_ordered y.value) ms l.member-index m (omega arith)
          ∙ ap₂ (λ a b. a && b) l.invariant.3 (ap (λ y. is_ordered y.value) (sym c.member-item.is) ∙ c.in_ok-write_tree.ensures.ordered),
    )

pub write_tree-returns-in_ok-end_array-in-List-clause-fits : goal.write_tree-returns-in_ok-end_array-in-List-clause-fits
write_tree-returns-in_ok-end_array-in-List-clause-fits t c =
    ap is_fitting c.in-List.is ∙ is_fitting-List c.in-List.items ∙ ap (list_all is_fitting) (sym c.as_slice.ensures) ∙ c.in_ok-write_items-in-List.ensures.fits

pub write_tree-returns-in_ok-end_object-in-Object-clause-fits : goal.write_tree-returns-in_ok-end_object-in-Object-clause-fits
write_tree-returns-in_ok-end_object-in-Object-clause-fits t c =
    ap is_fitting c.in-Object.is ∙ is_fitting-Object c.in-Object.members ∙ c.in_ok-write_members-in-Object.ensures.fits

pub write_tree-returns-in_ok-end_array-in-List-clause-ordered : goal.write_tree-returns-in_ok-end_array-in-List-clause-ordered
write_tree-returns-in_ok-end_array-in-List-clause-ordered t c =
    ap is_ordered c.in-List.is ∙ is_ordered-List c.in-List.items ∙ ap (list_all is_ordered) (sym c.as_slice.ensures) ∙ c.in_ok-write_items-in-List.ensures.ordered

pub write_tree-returns-in_ok-end_object-in-Object-clause-ordered : goal.write_tree-returns-in_ok-end_object-in-Object-clause-ordered
write_tree-returns-in_ok-end_object-in-Object-clause-ordered t c =
    let inner = c.in_ok-write_members-in-Object.ensures.ordered in
    ap is_ordered c.in-Object.is ∙ is_ordered-Object c.in-Object.members ∙ ap₂ (λ a b. a && b) c.write_members.ensures.rising inner
