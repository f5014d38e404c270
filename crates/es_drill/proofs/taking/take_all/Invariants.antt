use Rattle.std.proofs.Common.{ℕ, List}
use Rattle.es_drill.specs.Keeping.{Goes}
use Rattle.es_drill.proofs.taking.take_all.Given as goal

-- as many lines were taken as the loop has turned
abbrev pub invariant-loop-i : goal.invariant-loop-i
invariant-loop-i g l = record {
  goes :
      (secret : List ℕ) (limit : ℕ) (capacity : ℕ)
      → Goes 0 secret limit capacity l.fn.vault l.fn.jobs.items l.fn.schedule (g.S.Source.input l.fn.source) (g.S.Source.input l.fn.source) (g.K.Sink.output l.fn.sink) (g.K.Sink.output l.fn.sink)
      → Goes l.i secret limit capacity l.vault l.jobs.items l.schedule (g.S.Source.input l.fn.source) (g.S.Source.input l.source) (g.K.Sink.output l.fn.sink) (g.K.Sink.output l.sink);
  read_leaves : g.S.Source.read_leaves l.fn.source l.source;
  write_leaves : g.K.Sink.write_leaves l.fn.sink l.sink;
}
