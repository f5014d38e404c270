use Rattle.std.proofs.Common.{◌≡◌, ◌++◌, ℕ, List, length, true}
use Rattle.es_edge.specs.Moves.{Takes}
use Rattle.es_edge.proofs.sending.put.Given as goal

-- what was taken without a fault, and what is left
abbrev pub invariant-loop-rest : goal.invariant-loop-rest
invariant-loop-rest g l =
    ((written : List ℕ) × (l.bytes ≡ written ++ l.rest) × Takes (g.K.Sink.output l.fn.sink) (g.K.Sink.output l.sink) written)
    × ((g.K.Sink.output l.sink).is_open ≡ true)
    × g.K.Sink.write_leaves l.fn.sink l.sink
    × ((g.K.Sink.output l.sink).faults ≡ (g.K.Sink.output l.fn.sink).faults)

abbrev pub decreases-loop-rest : goal.decreases-loop-rest
decreases-loop-rest g l = length l.rest
