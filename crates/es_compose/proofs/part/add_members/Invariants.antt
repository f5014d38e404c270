use Rattle.std.proofs.Common.{◌≡◌, ◌++◌, map, filter, take}
use Rattle.es_compose.specs.Roles.{counts}
use Rattle.es_compose.specs.Ready.{ready, seen}
use Rattle.es_compose.proofs.part.add_members.Given as goal

abbrev pub invariant-loop-place : goal.invariant-loop-place
invariant-loop-place l = seen l.found.items ≡ seen l.initial.found.items ++ map ready (filter (counts l.action l.index) (take l.place l.groups))
