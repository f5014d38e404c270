use Rattle.std.proofs.Common.{rules, ap, ◌∙◌, arith}
use Rattle.es_gate.specs.Turns.{LiesBeside}
use Rattle.es_gate.proofs.Moves.{draws}
use Rattle.es_gate.proofs.gate.waiting.draw_ticket.Goals as goal

pub compare_exchange-found-requires : goal.compare_exchange-found-requires
compare_exchange-found-requires g c = (
  search rules,
  search rules,
  draws (LiesBeside g.V.Stands.entries) _ _ _ _ (ap (λ m. m.0.stage) c.loop.invariant.1 ∙ c.requires.idle) c.loop.next (let n = c.if-next.false in let f = c.loop.auto.next-fits in omega (arith, n, f)),
)
