use Rattle.std.proofs.Common.{rules, ap, ◌∙◌}
use Rattle.es_gate.specs.Turns.{LiesBeside}
use Rattle.es_gate.proofs.Moves.{looks}
use Rattle.es_gate.proofs.gate.waiting.await_ticket.Goals as goal

pub load-requires : goal.load-requires
load-requires g c = (search rules, search rules, looks (LiesBeside g.V.Stands.entries) _ _ _ _ _ (ap (λ m. m.0.stage) c.loop.invariant.1 ∙ c.requires.waits))
