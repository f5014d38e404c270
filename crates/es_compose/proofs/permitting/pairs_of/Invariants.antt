use Rattle.std.proofs.Common.{◌≡◌, take}
use Rattle.std.specs.List.{filter_map}
use Rattle.es_compose.specs.declared.member.Member.{Member}
use Rattle.es_compose.specs.Ready.{seen}
use Rattle.es_compose.proofs.permitting.pairs_of.Given as goal

abbrev pub invariant-loop-member : goal.invariant-loop-member
invariant-loop-member l = l.pairs ≡ filter_map (λ (member : Member). member.fields) (seen (take l.member-index l.members))
