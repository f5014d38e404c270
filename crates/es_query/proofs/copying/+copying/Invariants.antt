use Rattle.std.proofs.Common.{◌≡◌, take}
use Rattle.es_query.proofs.copying.+copying.Given as goal

abbrev pub invariant-copy_queries-loop-query : goal.invariant-copy_queries-loop-query
invariant-copy_queries-loop-query l = l.copies ≡ take l.query-index l.queries
