use Rattle.std.proofs.Common.{◌≡◌, take}
use Rattle.std.specs.List.{list_any}
use Rattle.es_match.specs.Holds.{query_holds}
use Rattle.es_fetch.proofs.permitting.one_holds.Given as goal

abbrev pub invariant-loop-query : goal.invariant-loop-query
invariant-loop-query l = l.found ≡ list_any (query_holds l.stored.written l.stored.document) (take l.query-index l.queries)
