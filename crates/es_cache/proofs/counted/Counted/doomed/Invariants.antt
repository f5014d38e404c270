use Rattle.std.proofs.Common.{List, ◌++◌}
use Rattle.std.specs.List.Retain.{IsFiltered}
use Rattle.std.specs.Map.{keys_of}
use Rattle.es_cache.specs.KeyTests.{AnswersAt}
use Rattle.es_cache.proofs.counted.Counted.doomed.Given as goal

-- the keys so far, with those that the test finds in the entries that are left, are those that it finds in all
abbrev pub invariant-loop-key : goal.invariant-loop-key
invariant-loop-key g l = (rest : List g.row.K.Denot) → IsFiltered (AnswersAt g.F.Fn) l.fn.test (keys_of l.key-iterator) rest → IsFiltered (AnswersAt g.F.Fn) l.fn.test (keys_of l.fn.self.entries) (l.keys.items ++ rest)
