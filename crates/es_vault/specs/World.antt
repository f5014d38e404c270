-- The journal of accepted changes, and the world that it stands for.
use Rattle.std.specs.Prelude.{◌≡◌, ℕ, ◌+◌, List, [], ◌∷◌, length, map as list_map, Option, Some, None}
use Rattle.std.specs.FinMap as map
use Rattle.es_records.specs.declared.change.SecurityChange.{SecurityChange}
use Rattle.es_records.specs.Records.{RecordsValue, opening_records}
use Rattle.es_records.specs.Changes.{with_security}
use Rattle.es_records.specs.Laws.{count_of}
use Rattle.es_catalog.specs.declared.change.DocChange.{DocChange}
use Rattle.es_catalog.specs.Catalog.{CatalogValue}
use Rattle.es_catalog.specs.Changes.{with_doc}

-- one accepted change
pub data Change : Type 0 where
  opening : Change
  security : SecurityChange → Change
  doc : DocChange → Change

-- a change with its caller's number, and its weight in bytes
pub record Entry : Type 0 where
  pub caller : ℕ
  pub weight : ℕ
  pub change : Change

-- users, roles and keys, and the indices by their names
pub record World : Type 0 where
  pub records : RecordsValue
  pub catalog : CatalogValue

-- the world before any change: no index, one user with this secret, and its role
abbrev pub opening_world : List ℕ → World
opening_world secret = record { records = opening_records secret; catalog = map.empty }

-- the world after the change of the entry with this number
abbrev pub apply : World → ℕ → Change → World
apply w number opening = w
apply w number (security change) = record w { records = with_security w.records change }
apply w number (doc change) = record w { catalog = with_doc w.catalog number change }

-- the world after these entries, of which the first has the number after count
abbrev pub replay_from : World → ℕ → List Entry → World
replay_from w count [] = w
replay_from w count (e ∷ entries) = replay_from (apply w (count + 1) e.change) (count + 1) entries

-- the world that a journal stands for, from the world before it
unfoldable pub replay : World → List Entry → World
replay w entries = replay_from w 0 entries

-- the first entry of every journal
abbrev pub opening_entry : Entry
opening_entry = record { caller = 0; weight = 0; change = opening }

-- the change of users, roles or keys, or the clearing, that a change is, if it is one
abbrev pub security_in : Change → Option SecurityChange
security_in opening = None
security_in (security change) = Some change
security_in (doc change) = None

-- such changes of a journal, in place of each other one nothing
abbrev pub securities : List Entry → List (Option SecurityChange)
securities entries = list_map (λ e. security_in e.change) entries

-- how many entries of a journal change users, roles or keys or clear the cache of composed roles
abbrev pub security_count : List Entry → ℕ
security_count entries = count_of (securities entries)

-- what a journal weighs, in bytes
abbrev pub weight_of : List Entry → ℕ
weight_of [] = 0
weight_of (e ∷ entries) = e.weight + weight_of entries

-- a world at a place of its journal: how many changes were accepted, and what they weigh
pub record PlacedWorld : Type 0 where
  pub world : World
  pub place : ℕ
  pub weight : ℕ

-- the world at the end of a journal, from the opening world
abbrev pub placed_after : World → List Entry → PlacedWorld
placed_after w J = record { world = replay w J; place = length J; weight = weight_of J }

-- it stands for the journal, from the opening world
pub record StandsFor (w : World) (J : List Entry) (at : PlacedWorld) : Type 0 where
  pub world : at.world ≡ replay w J
  pub place : at.place ≡ length J
  pub weight : at.weight ≡ weight_of J

-- after one entry more
abbrev pub advanced : PlacedWorld → Entry → PlacedWorld
advanced at e = record { world = apply at.world (at.place + 1) e.change; place = at.place + 1; weight = at.weight + e.weight }
