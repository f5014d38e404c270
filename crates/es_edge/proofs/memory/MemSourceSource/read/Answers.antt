use Rattle.std.proofs.Common.{arith, ap, Some, refl, ◌≡◌, take, drop, ◌++◌}
use Rattle.std.proofs.lemmas.Grind.{common_steps}
use Rattle.es_edge.proofs.PieceLemmas.{front_is, given_more, left_less}
use Rattle.es_edge.proofs.memory.MemSourceSource.read.Goals as goal

pub returns-clause-reads : goal.returns-clause-reads
returns-clause-reads c =
    let count = c.min-count.result in
    let place = c.args.self.now.place in
    let bytes = c.args.self.now.bytes in
    let front : take count (c.copy_from_slice.new.self ++ drop count c.args.buf.now) ≡ take count (drop place bytes) =
    front_is bytes c.copy_from_slice.new.self (drop count c.args.buf.now) place count (grind (arith, common_steps)) (rw c.as_slice-2.ensures at c.copy_from_slice.ensures.after) in
    record {
      count = grind (arith, common_steps);
      moved = record {
        given = rw front (ap Some (given_more bytes place count));
        left = rw front (ap Some (left_less bytes place count));
        faults = omega arith;
        ends = omega arith;
        is_open = grind arith;
      };
      cause = (refl, refl);
    }
