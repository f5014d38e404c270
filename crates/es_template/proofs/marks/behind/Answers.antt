use Rattle.std.proofs.Common.{◌≡◌, ◌++◌, List, ℕ, Option, Some, None, option_copied, Bor, MatchOption, ap, sym, ◌∙◌}
use Rattle.std.specs.Str.Pattern.{FindsTextPrefix, StripsPrefix}
use Rattle.es_template.specs.Marks.{behind}
use Rattle.es_template.proofs.Cutting.{behind-append, behind_none}
use Rattle.es_template.proofs.marks.behind.Goals as goal

stripped : (mark text : List ℕ) (r : Option (Bor (List ℕ))) → MatchOption r (FindsTextPrefix mark text None) (λ x. StripsPrefix (FindsTextPrefix mark) text x.now) → option_copied r ≡ behind mark text
stripped mark text None h = sym (behind_none mark text h)
stripped mark text (Some x) h = sym (ap (behind mark) (h.1.1 ∙ ap (λ l. mark ++ l) (sym h.2)) ∙ behind-append mark x.now)

pub returns : goal.returns
returns c = stripped c.args.mark.now c.args.text.now c.strip_prefix.result c.strip_prefix.ensures.cases
