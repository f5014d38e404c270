use Rattle.std.proofs.Common.{◌≡◌, ℕ, List, [], ◌++◌, ap, ap₂, subst, ◌∙◌, arith}
use Rattle.std.specs.Str.{IsUtf8}
use Rattle.json.specs.Print.{print, print_from, ends_value}
use Rattle.json.specs.Written.{Written}
use Rattle.es_tree.specs.Text.{text_of}
use Rattle.es_tree.specs.Adds.{comma_if, AddsText}
use Rattle.es_tree.specs.Read.{read_of, read_within_of, max_levels}
use Rattle.es_tree.proofs.Faults.{text_back}
use Rattle.es_tree.proofs.printing.print.Goals as goal

-- the text from nothing
whole_text : (old new : Written) (s : List ℕ) → old.tokens ≡ [] → AddsText old new s → print new.tokens ≡ s
unfolding print_from
whole_text old new s none added = added.text ∙ ap (λ ts. print ts ++ (comma_if (ends_value ts) ++ s)) none

pub returns-clause-text : goal.returns-clause-text
returns-clause-text c =
    let added = c.in_ok-write_tree.ensures.text in
    let nothing : c.write_tree.new.out.before ≡ [] = added.before ∙ c.new-out.ensures.before ∙ c.new.ensures.items in
    let printed = whole_text c.new-out.result c.write_tree.new.out (text_of c.args.tree.now) c.new-out.ensures.tokens added in
    c.from_string.ensures ∙ ap (λ v. v.items) c.in-Ok.ensures.ok ∙ c.into_inner.ensures.items ∙ ap₂ (λ a b. a ++ b) nothing printed

pub returns-clause-reads_back_within : goal.returns-clause-reads_back_within
returns-clause-reads_back_within c limit shallow_enough readable =
    let t = c.args.tree.now in
    let added = c.in_ok-write_tree.ensures.text in
    let nothing : c.write_tree.new.out.before ≡ [] = added.before ∙ c.new-out.ensures.before ∙ c.new.ensures.items in
    let printed = whole_text c.new-out.result c.write_tree.new.out (text_of t) c.new-out.ensures.tokens added in
    let is : c.from_string.result ≡ text_of t = c.from_string.ensures ∙ ap (λ v. v.items) c.in-Ok.ensures.ok ∙ c.into_inner.ensures.items ∙ ap₂ (λ a b. a ++ b) nothing printed in
    let utf8 : IsUtf8 (text_of t) = subst IsUtf8 printed c.into_inner.ensures.utf8 in
    ap (read_within_of limit) is ∙ text_back limit t c.in_ok-write_tree.ensures.ordered c.in_ok-write_tree.ensures.fits utf8 shallow_enough readable

pub returns-clause-reads_back : goal.returns-clause-reads_back
unfolding read_of
returns-clause-reads_back c shallow_enough = returns-clause-reads_back_within c max_levels shallow_enough (omega arith)
