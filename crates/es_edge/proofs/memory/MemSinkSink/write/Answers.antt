use Rattle.std.proofs.Common.{arith, ap, Some, inl, inr, refl}
use Rattle.std.proofs.lemmas.Grind.{common_steps}
use Rattle.es_edge.proofs.memory.MemSinkSink.write.Goals as goal
use Rattle.es_edge.proofs.memory.MemSinkSink.write.Goals.{then-room-eq0-via-then-room-eq0, then-room-eq0-via-else-room-eq0+then-contains}

pub returns-then-room-eq0-clause-fails : goal.returns-then-room-eq0-clause-fails
returns-then-room-eq0-clause-fails c =
    elim c.then-room-eq0.branch [
      | then-room-eq0-via-then-room-eq0 w ↦ (λ _. inr (grind (arith, common_steps)), λ _. refl)
      | then-room-eq0-via-else-room-eq0+then-contains w ↦ (λ _. inl (grind (arith, common_steps)), λ _. refl)
    ]

pub returns-clause-writes : goal.returns-clause-writes
returns-clause-writes c = record {
  count = grind (arith, common_steps);
  moved = record { written = ap Some (grind (arith, common_steps)); faults = omega arith; is_open = refl };
  cause = refl;
}
