use Rattle.std.proofs.Common.{ap₂, ◌∙◌}
use Rattle.es_vault.specs.Keys.{same_key}
use Rattle.es_vault.proofs.Agreeing.{agrees}
use Rattle.es_vault.proofs.half.HalfPartialEq.eq.Goals as goal

pub returns : goal.returns
returns c = agrees c.equals.result c.self.inside.key c.other.inside.key c.equals.ensures ∙ ap₂ same_key c.self.view_is c.other.view_is
