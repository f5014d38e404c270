use Rattle.std.proofs.Common.{◌≡◌, ◌-◌, length, true}
use Rattle.es_wire.specs.Fills.{Grown, IsQuiet}
use Rattle.es_wire.proofs.conn.fill.Given as goal

-- what waits grew by what the source gave, without a fault or an end
abbrev pub invariant-loop-source : goal.invariant-loop-source
invariant-loop-source g l =
    Grown l.fn.pending.items l.pending.items (g.S.Source.input l.fn.source) (g.S.Source.input l.source)
    × ((g.S.Source.input l.source).is_open ≡ true)
    × g.S.Source.read_leaves l.fn.source l.source
    × IsQuiet (g.S.Source.input l.fn.source) (g.S.Source.input l.source)

abbrev pub decreases-loop-source : goal.decreases-loop-source
decreases-loop-source g l = l.wanted - length l.pending.items
