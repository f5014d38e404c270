use Rattle.std.proofs.Common.{◌≡◌, take}
use Rattle.std.specs.List.{filter_map}
use Rattle.es_compose.specs.Ready.{seen, query_filled}
use Rattle.es_compose.proofs.permitting.queries_of.Given as goal

abbrev pub invariant-loop-member : goal.invariant-loop-member
invariant-loop-member l = l.queries ≡ filter_map (query_filled l.person) (seen (take l.member-index l.members))
