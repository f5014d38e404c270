use Rattle.std.proofs.Common.{◌≡◌, take}
use Rattle.std.specs.List.{list_any}
use Rattle.es_compose.specs.Roles.{counts}
use Rattle.es_compose.proofs.part.some_counts.Given as goal

abbrev pub invariant-loop-place : goal.invariant-loop-place
invariant-loop-place l = l.found ≡ list_any (counts l.action l.index) (take l.place l.groups)
