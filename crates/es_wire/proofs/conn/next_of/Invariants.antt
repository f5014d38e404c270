use Rattle.std.proofs.Common.{◌≡◌, ◌-◌, ◌+◌, length, true}
use Rattle.es_wire.specs.Framing.{body_limit}
use Rattle.es_wire.specs.Requests.{head_limit}
use Rattle.es_wire.proofs.ConnLemmas.{Waits}
use Rattle.es_wire.proofs.conn.next_of.Given as goal

-- what waits grew by what the source gave, where it was wanting
abbrev pub invariant-loop-raw : goal.invariant-loop-raw
invariant-loop-raw g l =
    Waits l.fn.pending.items l.pending.items (g.S.Source.input l.fn.source) (g.S.Source.input l.source)
    × ((g.S.Source.input l.source).is_open ≡ true)
    × g.S.Source.read_leaves l.fn.source l.source

abbrev pub decreases-loop-raw : goal.decreases-loop-raw
decreases-loop-raw g l = head_limit + body_limit - length l.pending.items
