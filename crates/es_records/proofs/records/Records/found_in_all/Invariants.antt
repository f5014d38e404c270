use Rattle.std.proofs.Common.{◌≡◌, take}
use Rattle.std.specs.Option.{option_copied}
use Rattle.std.specs.FinMap as map
use Rattle.es_records.specs.Found.{found_of}
use Rattle.es_records.proofs.records.Records.found_in_all.Given as goal

-- what is found of the keys so far
abbrev pub invariant-loop-place : goal.invariant-loop-place
invariant-loop-place l = l.found ≡ found_of (option_copied l.owner) (take l.place (map.values l.self.keys))
