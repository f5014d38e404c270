-- The chance over a list as contracts see it: it tells what it drew.
use Rattle.std.specs.Prelude.{take, filter, Some}
use Rattle.es_edge.specs.declared.chance.ListedChance.{ListedChance}
use Rattle.es_edge.specs.Draws.{Lots, has_bytes}

-- the bytes among the members before the place were drawn
abbrev pub listed_lots : ListedChance → Lots
listed_lots chance = record { drawn = Some (filter has_bytes (take chance.place chance.draws)); faults = chance.faults }
