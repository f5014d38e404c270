use Rattle.std.proofs.Common.{◌≡◌, map, take}
use Rattle.es_compose.specs.Ready.{ready}
use Rattle.es_compose.proofs.part.members_of.Given as goal

abbrev pub invariant-loop-group : goal.invariant-loop-group
invariant-loop-group l = l.members ≡ map ready (take l.group-index l.groups)
