use Rattle.std.proofs.Common.{reverse, sym, ap, ◌∙◌}
use Rattle.std.proofs.lemmas.List.{reverse-reverse}
use Rattle.es_template.proofs.Cutting.{no_last_space}
use Rattle.es_template.proofs.marks.without_last_spaces.Goals as goal

pub returns : goal.returns
returns c =
    let rest = c.loop-before.rest.now in
    sym (reverse-reverse rest) ∙ ap reverse (sym (no_last_space rest c.in_default.ensures.cases) ∙ c.loop-before.invariant.1)
