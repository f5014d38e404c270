use Rattle.std.proofs.Common.{rules, refl, ◌+◌, ◌-◌, ◌%◌, ◌^◌}
use Rattle.es_gate.specs.Turns.{LiesBeside}
use Rattle.es_gate.proofs.Moves.{signals}
use Rattle.es_gate.proofs.gate.waiting.sleep.Goals as goal

pub fetch_add-requires : goal.fetch_add-requires
fetch_add-requires g c = (search rules, search rules, signals (LiesBeside g.V.Stands.entries) _ _ _ _ 3 0 (λ n. (n + 1) % 2 ^ 64) refl)

pub fetch_sub-requires : goal.fetch_sub-requires
fetch_sub-requires g c = (search rules, search rules, signals (LiesBeside g.V.Stands.entries) _ _ _ _ 3 0 (λ n. (n + (2 ^ 64 - 1)) % 2 ^ 64) refl)
