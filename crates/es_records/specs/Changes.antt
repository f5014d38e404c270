-- Changes of users, roles and keys, and which composed roles each of them drops from a cache.
use Rattle.std.specs.Prelude.{◌≡◌, ⊤, ℕ, Bool, true, false, List, [], ◌∷◌, Option, Some, None, if◌then◌else◌, bytes_eq}
use Rattle.std.specs.List.{list_any}
use Rattle.std.specs.FinMap as map
use Rattle.es_keys.specs.declared.kinds.KeyRecord.{KeyRecord}
use Rattle.es_keys.specs.declared.kinds.RoleKey.{RoleKey}
use Rattle.es_keys.specs.declared.kinds.RoleKey.TheVariants.{Names, Assigned, Limits}
use Rattle.es_keys.specs.Keys.{invalidated}
use Rattle.es_map.specs.Views.{text_cmp}
use Rattle.es_records.specs.declared.change.SecurityChange.{SecurityChange}
use Rattle.es_records.specs.declared.change.SecurityChange.TheVariants.{PutRole, DeleteRole, PutUser, DeleteUser, AddKey, Invalidate, ClearCache}
use Rattle.es_records.specs.Records.{RecordsValue}

-- the keys with this one invalidated, if it stands
abbrev pub replaced : map.FinMap text_cmp KeyRecord → List ℕ → Option KeyRecord → map.FinMap text_cmp KeyRecord
replaced keys id None = keys
replaced keys id (Some kept) = map.insert keys id (invalidated kept)

-- the keys of these ids invalidated; ids that no key has are passed over
abbrev pub invalidated_in : map.FinMap text_cmp KeyRecord → List (List ℕ) → map.FinMap text_cmp KeyRecord
invalidated_in keys [] = keys
invalidated_in keys (id ∷ ids) = invalidated_in (replaced keys id (map.get keys id)) ids

-- the records after a change. The clearing of the cache of composed roles leaves them.
unfoldable pub with_security : RecordsValue → SecurityChange → RecordsValue
with_security records (PutRole name role) = record records { roles = map.insert records.roles name role }
with_security records (DeleteRole name) = record records { roles = map.remove records.roles name }
with_security records (PutUser user) = record records { users = map.insert records.users user.person.username user }
with_security records (DeleteUser name) = record records { users = map.remove records.users name }
with_security records (AddKey key) = record records { keys = map.insert records.keys key.id key }
with_security records (Invalidate ids) = record records { keys = invalidated_in records.keys ids }
with_security records (ClearCache names every) = records

-- a key that the change adds has an id that no key has
abbrev pub Fits : RecordsValue → SecurityChange → Type 0
Fits records (PutRole name role) = ⊤
Fits records (DeleteRole name) = ⊤
Fits records (PutUser user) = ⊤
Fits records (DeleteUser name) = ⊤
Fits records (AddKey key) = map.get records.keys key.id ≡ None
Fits records (Invalidate ids) = ⊤
Fits records (ClearCache names every) = ⊤

-- whether the half is that of a user one of whose roles has the name
abbrev pub has_role : RoleKey → List ℕ → Bool
has_role (Names names) role = list_any (λ name. bytes_eq name role) names
has_role (Assigned id) role = false
has_role (Limits id) role = false

-- whether the half is that of a user
abbrev pub is_names : RoleKey → Bool
is_names (Names names) = true
is_names (Assigned id) = false
is_names (Limits id) = false

-- The table of drops: whether a change drops the composed role of a half from a cache. A change of a role drops each half that has the role's name, whether or not the role stood.
unfoldable pub drops : SecurityChange → RoleKey → Bool
drops (PutRole name role) key = has_role key name
drops (DeleteRole name) key = has_role key name
drops (PutUser user) key = false
drops (DeleteUser name) key = false
drops (AddKey added) key = false
drops (Invalidate ids) key = false
drops (ClearCache names every) key = if every then is_names key else list_any (has_role key) names
