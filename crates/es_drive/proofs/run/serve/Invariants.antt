use Rattle.std.proofs.Common.{◌≡◌, ◌≤◌, [], length}
use Rattle.es_drive.specs.Serving.{Serves}
use Rattle.es_drive.specs.Tallies.{TalliesOn}
use Rattle.es_drive.proofs.run.serve.Given as goal

-- as many requests were answered as the loop has turned, and their hits were counted
abbrev pub invariant-loop-i : goal.invariant-loop-i
invariant-loop-i g l =
    Serves l.i l.fn.vault.limit l.fn.vault.at.world (g.C.Clock.moment l.clock) l.vault.at l.fn.conn l.conn l.receipts.items
    (g.S.Source.input l.fn.source) (g.S.Source.input l.source) (g.K.Sink.output l.fn.sink) (g.K.Sink.output l.sink) (g.H.Chance.lots l.fn.chance) (g.H.Chance.lots l.chance)
    × g.S.Source.read_leaves l.fn.source l.source
    × g.K.Sink.write_leaves l.fn.sink l.sink
    × g.H.Chance.draw_leaves l.fn.chance l.chance
    × (l.vault.limit ≡ l.fn.vault.limit)
    × TalliesOn l.fn.vault l.vault l.fn.conn l.conn (g.S.Source.input l.fn.source) (g.S.Source.input l.source) [] l.receipts.items 0 l.hits
    × (l.hits ≤ length l.receipts.items)
