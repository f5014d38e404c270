-- Kept lists of entries as records.
use Rattle.std.specs.Prelude.{ℕ, List}
use Rattle.es_role.specs.declared.kinds.Descriptor.{Descriptor}
use Rattle.es_cred.specs.declared.users.UserRecord.{UserRecord}
use Rattle.es_keys.specs.declared.kinds.KeyRecord.{KeyRecord}
use Rattle.es_map.specs.Entries.{IsRising}
use Rattle.es_map.specs.Views.{map_of}
use Rattle.es_records.specs.Records.{RecordsValue, IsNamed}

-- the records of these users, roles and keys
abbrev pub records_of : List (List ℕ × UserRecord) → List (List ℕ × Descriptor) → List (List ℕ × KeyRecord) → RecordsValue
records_of users roles keys = record { users = map_of users; roles = map_of roles; keys = map_of keys }

-- they are in the order of their names and ids, and each user and key stands at its own
pub record IsKept (users : List (List ℕ × UserRecord)) (roles : List (List ℕ × Descriptor)) (keys : List (List ℕ × KeyRecord)) : Type 0 where
  pub users_rising : IsRising users
  pub roles_rising : IsRising roles
  pub keys_rising : IsRising keys
  pub named : IsNamed (records_of users roles keys)
