use Rattle.std.proofs.Common.{◌∙◌}
use Rattle.es_edge.proofs.MoveLemmas.{Gives-then}
use Rattle.es_wire.proofs.conn.fill.Goals as goal

pub returns-then-is_err-clause-fills : goal.returns-then-is_err-clause-fills
returns-then-is_err-clause-fills g c =
    let reads = c.in-Bytes.ensures.reads in
    (_, Gives-then c.loop-source.invariant.0.given reads.moved, (reads.cause.0 ∙ c.loop-source.invariant.3.0, reads.cause.1 ∙ c.loop-source.invariant.3.1))
