use Rattle.std.proofs.Common.{◌≡◌, map, take}
use Rattle.es_query.specs.Printed.{query_tree}
use Rattle.es_query.proofs.printing.+queries.Given as goal

abbrev pub invariant-print_queries-loop-query : goal.invariant-print_queries-loop-query
invariant-print_queries-loop-query l = l.found ≡ map query_tree (take l.query-index l.queries)
