use Rattle.std.proofs.Common.{◌≡◌, take}
use Rattle.std.specs.List.{filter_map}
use Rattle.std.specs.Option.{option_copied}
use Rattle.std.specs.FinMap as map
use Rattle.es_records.specs.Found.{found_of}
use Rattle.es_records.proofs.records.Records.found_among.Given as goal

-- what is found of the keys of the ids so far
abbrev pub invariant-loop-id : goal.invariant-loop-id
invariant-loop-id l = l.found ≡ found_of (option_copied l.owner) (filter_map (λ q. map.get l.self.keys q) (take l.id-index l.id-items))
