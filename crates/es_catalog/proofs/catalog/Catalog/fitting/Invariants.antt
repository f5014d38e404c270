use Rattle.std.proofs.Common.{◌≡◌, take}
use Rattle.std.specs.List.{filter}
use Rattle.std.specs.Map.{keys_of}
use Rattle.es_glob.specs.Patterns.{fits}
use Rattle.es_catalog.proofs.catalog.Catalog.fitting.Given as goal

-- those of the names so far that fit
abbrev pub invariant-loop-place : goal.invariant-loop-place
invariant-loop-place l = l.names ≡ filter (fits l.pattern) (take l.place (keys_of l.self-inside.indices))
