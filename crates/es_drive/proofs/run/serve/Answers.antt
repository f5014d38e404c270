use Rattle.std.proofs.Common.{arith, refl, ◌∙◌}
use Rattle.es_drive.proofs.Looping.{serves_none, serves_more, serves_ended, serves_closed, serves_closed_spent, serves_spent}
use Rattle.es_drive.proofs.Hitting.{tallies_begun, tallies_more, tallies_end, tallies_so_far}
use Rattle.es_drive.proofs.run.serve.Goals as goal

pub serve_next-requires-clause-few : goal.serve_next-requires-clause-few
serve_next-requires-clause-few g c = let n = c.loop-i.invariant.0.answered in omega arith

pub serve_next-requires-clause-counted : goal.serve_next-requires-clause-counted
serve_next-requires-clause-counted g c = c.loop-i.invariant.6

pub loop-i-init : goal.loop-i-init
loop-i-init g c = (
  serves_none _ _ _ _ _ _ _ _ c.requires.none c.requires.opening c.requires.source_is_open c.requires.sink_is_open,
  g.met.S.Source.read_leaves_same _,
  g.met.K.Sink.write_leaves_same _,
  g.met.H.Chance.draw_leaves_same _,
  refl,
  tallies_begun _ _ _ _ _ c.requires.none c.requires.uncounted,
  let none = c.requires.uncounted in omega arith,
)

pub loop-i-preserved : goal.loop-i-preserved
loop-i-preserved g c =
    let so_far = c.loop-i.invariant.0 in
    let e = c.in-Goes.ensures in (
      serves_more so_far (rw (← c.loop-i.invariant.4) (e.turn _ so_far.journal so_far.grows.stands)) e.source_is_open e.sink_is_open,
      g.met.S.Source.read_leaves_then _ _ _ c.loop-i.invariant.1 e.read_leaves,
      g.met.K.Sink.write_leaves_then _ _ _ c.loop-i.invariant.2 e.write_leaves,
      g.met.H.Chance.draw_leaves_then _ _ _ c.loop-i.invariant.3 e.draw_leaves,
      e.limit ∙ c.loop-i.invariant.4,
      tallies_more c.loop-i.invariant.5 e.hits,
      e.counted,
    )

pub returns-in-Ends-clause-session : goal.returns-in-Ends-clause-session
returns-in-Ends-clause-session g c =
    let so_far = c.loop-i.invariant.0 in
    serves_ended so_far c.serve_next.new.conn (rw (← c.loop-i.invariant.4) (c.in-Ends.ensures.turn _ so_far.journal so_far.grows.stands))

pub returns-then-i-clause-session : goal.returns-then-i-clause-session
returns-then-i-clause-session g c =
    let so_far = c.loop-i.invariant.0 in
    serves_closed_spent so_far c.serve_next.new.conn (rw (← c.loop-i.invariant.4) (c.in-Closes.ensures.turn _ so_far.journal so_far.grows.stands)) (omega arith)

pub returns-else-i-clause-session : goal.returns-else-i-clause-session
returns-else-i-clause-session g c =
    let so_far = c.loop-i.invariant.0 in
    serves_closed so_far c.serve_next.new.conn (rw (← c.loop-i.invariant.4) (c.in-Closes.ensures.turn _ so_far.journal so_far.grows.stands)) (omega arith)

pub returns-clause-session : goal.returns-clause-session
returns-clause-session g c = serves_spent c.loop-i.invariant.0 (omega arith)

pub returns-in-Ends-clause-hits : goal.returns-in-Ends-clause-hits
returns-in-Ends-clause-hits g c = tallies_end c.loop-i.invariant.5 c.in-Ends.ensures.hits

pub returns-then-i-clause-hits : goal.returns-then-i-clause-hits
returns-then-i-clause-hits g c = tallies_so_far (tallies_more c.loop-i.invariant.5 c.in-Closes.ensures.hits)

pub returns-else-i-clause-hits : goal.returns-else-i-clause-hits
returns-else-i-clause-hits g c = tallies_so_far (tallies_more c.loop-i.invariant.5 c.in-Closes.ensures.hits)

pub returns-clause-hits : goal.returns-clause-hits
returns-clause-hits g c = tallies_so_far c.loop-i.invariant.5
