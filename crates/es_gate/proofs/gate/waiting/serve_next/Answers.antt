use Rattle.std.proofs.Common.{rules, arith, ◌+◌, ◌-◌, ◌%◌, ◌^◌}
use Rattle.es_gate.specs.Turns.{LiesBeside}
use Rattle.es_gate.proofs.Moves.{leaves, signals}
use Rattle.es_gate.proofs.gate.waiting.serve_next.Goals as goal

pub fetch_add-served-requires : goal.fetch_add-served-requires
fetch_add-served-requires g c =
    let done = c.requires in
    (search rules, search rules, leaves (LiesBeside g.V.Stands.entries) _ _ _ c.args.seat.now.me done.2.0 done.1.0 done.1.1 done.1.2 done.2.1 done.2.2)

pub fetch_add-requires : goal.fetch_add-requires
fetch_add-requires g c = (search rules, search rules, signals (LiesBeside g.V.Stands.entries) _ _ _ _ c.queue_of-queue.result (c.queue_of-queue.result - 3) (λ n. (n + 1) % 2 ^ 64) (let q = c.queue_of-queue.ensures in omega (arith, q)))
