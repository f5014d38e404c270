use Rattle.std.proofs.Common.{sym, ◌∙◌}
use Rattle.es_template.proofs.Cutting.{no_first_space}
use Rattle.es_template.proofs.marks.without_first_spaces.Goals as goal

pub returns : goal.returns
returns c = sym (no_first_space c.loop-behind.rest.now c.in_default.ensures.cases) ∙ c.loop-behind.invariant.1
