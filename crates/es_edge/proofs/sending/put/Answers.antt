use Rattle.std.proofs.Common.{◌∙◌, [], refl}
use Rattle.es_edge.proofs.PieceLemmas.{taken_more}
use Rattle.es_edge.proofs.MoveLemmas.{Takes-none, Takes-then}
use Rattle.es_edge.proofs.sending.put.Goals as goal

pub loop-rest-init : goal.loop-rest-init
loop-rest-init g c =
    (([], refl, Takes-none (g.K.Sink.output c.args.sink.now)), c.requires, g.met.K.Sink.write_leaves_same c.args.sink.now, refl)

pub loop-rest-preserved : goal.loop-rest-preserved
loop-rest-preserved g c =
    let before = c.loop-rest.invariant.0 in
    let writes = c.in-Bytes.ensures.writes in
    let moved = writes.moved in (
      (_, taken_more _ before.0 _ c.in-Bytes.count before.1, Takes-then before.2 moved),
      moved.is_open ∙ c.loop-rest.invariant.1,
      g.met.K.Sink.write_leaves_then _ _ _ c.loop-rest.invariant.2 c.in-Bytes.ensures.leaves,
      writes.cause ∙ c.loop-rest.invariant.3,
    )
