use Rattle.std.proofs.Common.{◌≡◌, take}
use Rattle.es_records.specs.Records.{parts_of}
use Rattle.es_records.proofs.halves.role_of_parts.Given as goal

-- the descriptors so far
abbrev pub invariant-loop-one : goal.invariant-loop-one
invariant-loop-one l = l.parts ≡ parts_of (take l.one-index l.named)
