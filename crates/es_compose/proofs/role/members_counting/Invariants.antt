use Rattle.std.proofs.Common.{◌≡◌, map, take}
use Rattle.es_compose.specs.Roles.{counting}
use Rattle.es_compose.specs.Ready.{ready, seen}
use Rattle.es_compose.proofs.role.members_counting.Given as goal

abbrev pub invariant-loop-part : goal.invariant-loop-part
invariant-loop-part l = seen l.members.items ≡ map ready (counting (take l.part-index l.parts) l.action l.index)
