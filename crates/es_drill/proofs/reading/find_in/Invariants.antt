use Rattle.std.proofs.Common.{◌≡◌, ◌≤◌, ◌+◌, ◌-◌, length, true}
use Rattle.es_drill.specs.Lines.{line_limit}
use Rattle.es_drill.specs.Keeping.{Grows}
use Rattle.es_drill.proofs.Feeding.{feed_at}
use Rattle.es_drill.proofs.reading.find_in.Given as goal

-- what waits grew by what the source gave, without a fault, and no line feed stands in what was seen
abbrev pub invariant-loop-seen : goal.invariant-loop-seen
invariant-loop-seen g l = record {
  grown : Grows l.fn.pending.items l.pending.items (g.S.Source.input l.fn.source) (g.S.Source.input l.source);
  is_open : (g.S.Source.input l.source).is_open ≡ true;
  leaves : g.S.Source.read_leaves l.fn.source l.source;
  calm : (g.S.Source.input l.source).faults ≡ (g.S.Source.input l.fn.source).faults;
  within : l.seen ≤ length l.pending.items;
  none : l.seen ≤ feed_at l.pending.items;
}

abbrev pub decreases-loop-seen : goal.decreases-loop-seen
decreases-loop-seen g l = line_limit + 1 - length l.pending.items
