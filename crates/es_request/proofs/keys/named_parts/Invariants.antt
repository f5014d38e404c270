use Rattle.std.proofs.Common.{◌≡◌, map, take}
use Rattle.es_request.specs.Keys.{named_part}
use Rattle.es_request.proofs.keys.named_parts.Given as goal

abbrev pub invariant-loop-member : goal.invariant-loop-member
invariant-loop-member l = l.parts ≡ map named_part (take l.member-index l.named)
