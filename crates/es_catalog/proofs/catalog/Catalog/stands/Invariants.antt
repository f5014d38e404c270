use Rattle.std.proofs.Common.{◌≡◌, take, false, ◌==◌}
use Rattle.std.specs.List.{list_any}
use Rattle.std.specs.Map.{values_of}
use Rattle.es_catalog.specs.Catalog.{IndexValue}
use Rattle.es_catalog.proofs.catalog.Catalog.stands.Given as goal

-- none of the indices so far is of the incarnation
abbrev pub invariant-loop-place : goal.invariant-loop-place
invariant-loop-place l = list_any (λ (index : IndexValue). index.incarnation == l.incarnation) (take l.place (values_of l.self-inside.indices)) ≡ false
