-- The vault: the world at its place, and the cache of composed roles.
use Rattle.std.specs.Prelude.{◌≡◌, ℕ, ◌+◌, ◌≤◌, Bool, not, List, [], ◌∷◌, filter, All, Option, Some, None, is_some}
use Rattle.std.specs.List.{list_all}
use Rattle.std.specs.Map.{lookup}
use Rattle.es_cache.specs.Cache.{Cache}
use Rattle.es_cache.specs.Entries.{brought_first, put_first}
use Rattle.es_role.specs.declared.kinds.Descriptor.{Descriptor}
use Rattle.es_keys.specs.declared.kinds.RoleKey.{RoleKey}
use Rattle.es_records.specs.Records.{RecordsValue}
use Rattle.es_records.specs.Halves.{roles_of}
use Rattle.es_records.specs.Laws.{IsStanding}
use Rattle.es_records.specs.Changes.{drops}
use Rattle.es_catalog.specs.Catalog.{CatalogValue}
use Rattle.es_vault.specs.World.{Change, opening, security, doc, Entry, PlacedWorld, StandsFor, opening_world, security_count, advanced}
use Rattle.es_vault.specs.Answer.{weight_limit}
use Rattle.es_vault.specs.Replayable.{IsReplayable}
use Rattle.es_vault.specs.Keys.{same_key}

-- composed roles by the names of halves, the most recently used first
abbrev pub Roles : Type 0
Roles = List (RoleKey × List Descriptor)

-- the world at its place; how many entries the journal may have; and the cache of composed roles, whose count is that of the changes of users, roles and keys and of the clearings
pub record VaultValue : Type 0 where
  pub at : PlacedWorld
  pub limit : ℕ
  pub roles : Cache RoleKey (List Descriptor)

-- of these parts
abbrev pub vault_of : RecordsValue → CatalogValue → ℕ → ℕ → ℕ → Cache RoleKey (List Descriptor) → VaultValue
vault_of records catalog place weight limit roles = record { at = record { world = record { records = records; catalog = catalog }; place = place; weight = weight }; limit = limit; roles = roles }

-- the descriptors are those that the name of a half stands for, and the key that it is of stands
pub record IsRight (records : RecordsValue) (pair : RoleKey × List Descriptor) : Type 0 where
  pub roles : pair.1 ≡ roles_of records pair.0
  pub stands : IsStanding records pair.0

-- each composed role that is cached is that of the records that stand
abbrev pub AreRight : RecordsValue → Roles → Type 0
AreRight records roles = All (IsRight records) roles

-- What a vault is after a journal: its world is that of the journal, which can be replayed; its count is how many of the journal's entries change users, roles or keys or clear the cache; and each composed role that is cached is that of the records that stand.
pub record IsSoundFor (secret : List ℕ) (journal : List Entry) (vault : VaultValue) : Type 0 where
  pub replayable : IsReplayable journal
  pub stands : StandsFor (opening_world secret) journal vault.at
  pub count : vault.roles.count ≡ security_count journal
  pub right : AreRight vault.at.world.records vault.roles.entries
  pub room : vault.at.place ≤ vault.limit
  pub limit : vault.limit ≤ 200000
  pub weight : vault.at.weight ≤ weight_limit

-- What is always so of a vault: it is so after some journal.
abbrev pub IsSound : VaultValue → Type 0
IsSound vault = (secret : List ℕ) × (journal : List Entry) × IsSoundFor secret journal vault

-- the vault after other composed roles were cached
abbrev pub with_roles : VaultValue → Roles → VaultValue
with_roles vault roles = record vault { roles = record vault.roles { entries = roles } }

-- whether each of these is cached
abbrev pub has_all : Roles → List RoleKey → Bool
has_all roles keys = list_all (λ key. is_some (lookup (same_key key) roles)) keys

-- each of these brought to the front, one after the other
abbrev pub brought_all : List RoleKey → Roles → Roles
brought_all [] roles = roles
brought_all (key ∷ keys) roles = brought_all keys (brought_first (same_key key) roles)

-- the vault after a composed role was put first: an equal key's is replaced, and only where there is none the last of a full cache goes
abbrev pub with_role : VaultValue → RoleKey → List Descriptor → VaultValue
with_role vault key role = with_roles vault (put_first same_key vault.roles.capacity key role vault.roles.entries)

-- the composed roles that a change keeps, in their order
abbrev pub kept_by : Change → Roles → Roles
kept_by opening roles = roles
kept_by (security change) roles = filter (λ pair. not (drops change pair.0)) roles
kept_by (doc change) roles = roles

-- the count after a change
abbrev pub counted : Change → ℕ → ℕ
counted opening count = count
counted (security change) count = count + 1
counted (doc change) count = count

-- the vault after one entry more
abbrev pub changed_by : VaultValue → Entry → VaultValue
changed_by vault e = record {
  at = advanced vault.at e;
  limit = vault.limit;
  roles = record { entries = kept_by e.change vault.roles.entries; count = counted e.change vault.roles.count; capacity = vault.roles.capacity };
}
