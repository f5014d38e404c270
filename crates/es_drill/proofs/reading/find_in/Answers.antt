use Rattle.std.proofs.Common.{◌≡◌, ◌≤◌, ◌+◌, ◌++◌, length, take, sym, ap, ◌∙◌, subst, arith, length-append, List, ℕ}
use Rattle.es_drill.proofs.Feeding.{feed_at, feed_within, feed_behind, feed_beyond, is_line-from_end, extended, Grows-then, line_found, long_found, ended_result, fault_found, no_memory_found}
use Rattle.es_drill.proofs.reading.find_in.Goals as goal

pub overflow_add-end : goal.overflow_add-end
overflow_add-end g c =
    let waits = c.loop-seen.pending.items in
    let at : c.loop-seen.seen + c.feed_in.result ≡ feed_at waits = feed_behind _ _ _ _ c.deref.ensures.value c.feed_in.ensures c.loop-seen.invariant.none in
    omega (arith, feed_within waits)

pub returns-then-end-len-clause-finds : goal.returns-then-end-len-clause-finds
returns-then-end-len-clause-finds g c =
    let at : c.loop-seen.seen + c.feed_in.result ≡ feed_at c.loop-seen.pending.items = feed_behind _ _ _ _ c.deref.ensures.value c.feed_in.ensures c.loop-seen.invariant.none in
    line_found _ c.loop-seen.invariant.grown c.loop-seen.invariant.calm at (omega arith)

pub returns-then-seen-gt-LONGEST-clause-finds : goal.returns-then-seen-gt-LONGEST-clause-finds
returns-then-seen-gt-LONGEST-clause-finds g c =
    let waits = c.loop-seen.pending.items in
    let at : c.loop-seen.seen + c.feed_in.result ≡ feed_at waits = feed_behind _ _ _ _ c.deref.ensures.value c.feed_in.ensures c.loop-seen.invariant.none in
    long_found c.loop-seen.invariant.grown c.loop-seen.invariant.calm (is_line-from_end waits (omega arith)) (omega (arith, feed_within waits))

pub returns-then-is_err-clause-finds : goal.returns-then-is_err-clause-finds
returns-then-is_err-clause-finds g c =
    let reads = c.in-Bytes.ensures.reads in
    no_memory_found c.loop-seen.pending.items c.loop-seen.invariant.grown c.loop-seen.invariant.calm reads.moved reads.cause.0

pub loop-seen-preserved : goal.loop-seen-preserved
loop-seen-preserved g c =
    let waits = c.loop-seen.pending.items in
    let come = take c.in-Bytes.count c.read.new.buf in
    let reads = c.in-Bytes.ensures.reads in
    let at : c.loop-seen.seen + c.feed_in.result ≡ feed_at waits = feed_behind _ _ _ _ c.deref.ensures.value c.feed_in.ensures c.loop-seen.invariant.none in
    let more : c.extend_from_slice.new.self.items ≡ waits ++ come = extended waits come c.extend_from_slice.result c.if-is_err.ensures.value c.extend_from_slice.ensures.items in
    let beyond : length waits ≤ feed_at c.extend_from_slice.new.self.items =
    subst (λ (q : List ℕ). length waits ≤ feed_at q) (sym more) (feed_beyond waits come (is_line-from_end waits (omega arith))) in
    record {
      grown = Grows-then c.loop-seen.invariant.grown reads.moved more;
      is_open = reads.moved.is_open ∙ c.loop-seen.invariant.is_open;
      leaves = g.met.S.Source.read_leaves_then _ _ _ c.loop-seen.invariant.leaves c.in-Bytes.ensures.leaves;
      calm = reads.cause.0 ∙ c.loop-seen.invariant.calm;
      within = omega (arith, feed_within waits, ap length more, length-append waits come);
      none = omega (arith, feed_within waits);
    }

pub returns-in-End-clause-finds : goal.returns-in-End-clause-finds
returns-in-End-clause-finds g c =
    let waits = c.loop-seen.pending.items in
    let at : c.loop-seen.seen + c.feed_in.result ≡ feed_at waits = feed_behind _ _ _ _ c.deref.ensures.value c.feed_in.ensures c.loop-seen.invariant.none in
    let reads = c.in-End.ensures.reads in
    ended_result _ _ c.deref-in-End.ensures.value c.at_end.ensures c.loop-seen.invariant.grown c.loop-seen.invariant.calm (is_line-from_end waits (omega arith))
    reads.moved reads.cause.0 reads.cause.1

pub returns-in-Failed-clause-finds : goal.returns-in-Failed-clause-finds
returns-in-Failed-clause-finds g c =
    let waits = c.loop-seen.pending.items in
    let at : c.loop-seen.seen + c.feed_in.result ≡ feed_at waits = feed_behind _ _ _ _ c.deref.ensures.value c.feed_in.ensures c.loop-seen.invariant.none in
    let reads = c.in-Failed.ensures.reads in
    fault_found c.loop-seen.invariant.grown (is_line-from_end waits (omega arith)) (omega arith) reads.moved reads.cause.0
