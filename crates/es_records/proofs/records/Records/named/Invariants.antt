use Rattle.std.proofs.Common.{◌≡◌, take}
use Rattle.es_records.specs.Records.{named}
use Rattle.es_records.proofs.records.Records.named.Given as goal

-- the descriptors of the names so far
abbrev pub invariant-loop-name : goal.invariant-loop-name
invariant-loop-name l = l.found ≡ named l.self (take l.name-index l.name-items)
