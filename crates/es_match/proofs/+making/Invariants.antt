use Rattle.std.proofs.Common.{take}
use Rattle.es_match.specs.Ready.{AllStand}
use Rattle.es_match.proofs.+making.Given as goal

-- those that were made stand for the queries so far
abbrev pub invariant-making::each-loop-query : goal.invariant-making::each-loop-query
invariant-making::each-loop-query l = AllStand l.matchers (take l.query-index l.queries) l.mapping
