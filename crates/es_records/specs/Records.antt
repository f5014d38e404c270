-- Users, roles and API keys, and who calls.
use Rattle.std.specs.Prelude.{◌≡◌, ℕ, ◌&&◌, not, List, [], ◌∷◌, map as list_map, codes, Option, Some, None, option_map, IfSome, if◌then◌else◌, bytes_eq}
use Rattle.std.specs.FinMap as map
use Rattle.es_tree.specs.declared.tree.Tree as tree
use Rattle.es_priv.specs.declared.kinds.IndexPrivilege.TheVariants as index_privilege
use Rattle.es_priv.specs.declared.kinds.ClusterPrivilege.TheVariants as cluster_privilege
use Rattle.es_role.specs.declared.kinds.Descriptor.{Descriptor}
use Rattle.es_cred.specs.declared.credentials.Credentials.{Credentials}
use Rattle.es_cred.specs.declared.credentials.Credentials.TheVariants.{User, Key, Absent, Malformed}
use Rattle.es_cred.specs.declared.users.UserRecord.{UserRecord}
use Rattle.es_cred.specs.Digest.{digest_of}
use Rattle.es_cred.specs.Names.{is_secret, user_name, role_name}
use Rattle.es_keys.specs.declared.kinds.NamedPart.{NamedPart}
use Rattle.es_keys.specs.declared.kinds.KeyRecord.{KeyRecord}
use Rattle.es_keys.specs.declared.kinds.Caller.{Caller}
use Rattle.es_keys.specs.declared.kinds.Caller.TheVariants as caller
use Rattle.es_keys.specs.declared.kinds.Target.{Target}
use Rattle.es_keys.specs.declared.kinds.Target.TheVariants as target
use Rattle.es_keys.specs.declared.kinds.Subject.{Subject}
use Rattle.es_keys.specs.Keys.{is_secret_of, is_expired}
use Rattle.es_map.specs.Views.{text_cmp}

-- users and descriptors by their names, and keys by their ids
pub record RecordsValue : Type 0 where
  pub users : map.FinMap text_cmp UserRecord
  pub roles : map.FinMap text_cmp Descriptor
  pub keys : map.FinMap text_cmp KeyRecord

-- each user stands at its own name, and each key at its own id
pub record IsNamed (records : RecordsValue) : Type 0 where
  pub users : (name : List ℕ) → IfSome (map.get records.users name) (λ user. user.person.username ≡ name)
  pub keys : (id : List ℕ) → IfSome (map.get records.keys id) (λ kept. kept.id ≡ id)

-- the user of the opening world, with this secret
abbrev pub opening_user : List ℕ → UserRecord
opening_user secret = record {
  person = record { username = user_name; full_name = None; email = None; roles = role_name ∷ []; metadata = tree.Object [] };
  digest = digest_of user_name secret;
}

-- its role: all on the cluster and on every index, for every user
abbrev pub opening_role : Descriptor
opening_role = record {
  cluster = cluster_privilege.All ∷ [];
  indices = record { names = codes "*" ∷ []; privileges = index_privilege.All ∷ []; fields = None; query = None } ∷ [];
  run_as = codes "*" ∷ [];
  metadata = tree.Object [];
}

-- the records before any change
abbrev pub opening_records : List ℕ → RecordsValue
opening_records secret = record { users = map.insert map.empty user_name (opening_user secret); roles = map.insert map.empty role_name opening_role; keys = map.empty }

-- the user, if the digest is the user's
abbrev pub known_user : List ℕ → Option UserRecord → Option Caller
known_user digest None = None
known_user digest (Some user) = if bytes_eq digest user.digest then Some (caller.User user) else None

-- the key, if the secret is the key's, it isn't invalidated, and the moment isn't at or past its expiry
abbrev pub known_key : List ℕ → ℕ → Option KeyRecord → Option Caller
known_key secret moment None = None
known_key secret moment (Some kept) = if is_secret_of kept secret && (not kept.invalidated && not (is_expired kept moment)) then Some (caller.Key kept) else None

-- the caller of these credentials at the moment: none for an unknown name or id, another secret, what can't be a secret, an invalidated key, a key at or past its expiry, and credentials that are absent or malformed
unfoldable pub caller_of : RecordsValue → Credentials → ℕ → Option Caller
caller_of records (User name secret) moment = if is_secret secret then known_user (digest_of name secret) (map.get records.users name) else None
caller_of records (Key id secret) moment = if is_secret secret then known_key secret moment (map.get records.keys id) else None
caller_of records Absent moment = None
caller_of records Malformed moment = None

-- as this user, if there is one
abbrev pub as_user : Option UserRecord → Target
as_user None = target.Unknown
as_user (Some user) = target.As user

-- as whom a caller acts that names this target, or none: a name that no user has is the unknown user's
abbrev pub target_of : RecordsValue → Option (List ℕ) → Target
target_of records None = target.Own
target_of records (Some name) = as_user (map.get records.users name)

-- who sends a request with these credentials at the moment, and as whom
unfoldable pub who : RecordsValue → Credentials → Option (List ℕ) → ℕ → Option Subject
who records credentials run_as moment = option_map (λ c. record { caller = c; target = target_of records run_as }) (caller_of records credentials moment)

-- the descriptors alone
abbrev pub parts_of : List NamedPart → List Descriptor
parts_of named = list_map (λ n. n.part) named

-- with the descriptor under its name before them, if there is one
abbrev pub before_others : List ℕ → Option Descriptor → List NamedPart → List NamedPart
before_others name None others = others
before_others name (Some descriptor) others = record { name = name; part = descriptor } ∷ others

-- the descriptors of the names that have one, with their names, in the order in which the names are given; a name without one grants nothing
abbrev pub named : RecordsValue → List (List ℕ) → List NamedPart
named records [] = []
named records (name ∷ names) = before_others name (map.get records.roles name) (named records names)

-- these descriptors alone
abbrev pub descriptors_of : RecordsValue → List (List ℕ) → List Descriptor
descriptors_of records names = parts_of (named records names)
