use Rattle.std.proofs.Common.{◌≡◌}
use Rattle.es_gate.specs.Passes.{IsSameSeat}
use Rattle.es_gate.proofs.gate.waiting.draw_ticket.Given as goal

abbrev pub invariant-loop : goal.invariant-loop
invariant-loop g l = IsSameSeat l.initial.seat l.seat × (l.seat.me ≡ l.initial.seat.me)
