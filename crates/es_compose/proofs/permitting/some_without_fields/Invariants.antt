use Rattle.std.proofs.Common.{◌≡◌, is_none, take}
use Rattle.std.specs.List.{list_any}
use Rattle.es_compose.specs.declared.member.Member.{Member}
use Rattle.es_compose.specs.Ready.{seen}
use Rattle.es_compose.proofs.permitting.some_without_fields.Given as goal

abbrev pub invariant-loop-member : goal.invariant-loop-member
invariant-loop-member l = l.found ≡ list_any (λ (member : Member). is_none member.fields) (seen (take l.member-index l.members))
