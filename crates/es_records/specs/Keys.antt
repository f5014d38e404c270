-- Keys that are made and invalidated by a subject.
use Rattle.std.specs.Prelude.{ℕ, Bool, true, ◌&&◌, not, List, [], map as list_map, Option, Some, None, if◌then◌else◌, bytes_eq}
use Rattle.std.specs.List.{filter, filter_map, list_all}
use Rattle.std.specs.FinMap as map
use Rattle.es_grammar.specs.Values.{has_some}
use Rattle.es_role.specs.Descriptors.{grants_nothing}
use Rattle.es_cred.specs.Names.{in_order}
use Rattle.es_keys.specs.declared.kinds.NamedPart.{NamedPart}
use Rattle.es_keys.specs.declared.kinds.KeyRecord.{KeyRecord}
use Rattle.es_keys.specs.declared.kinds.Caller.{Caller}
use Rattle.es_keys.specs.declared.kinds.Caller.TheVariants as caller
use Rattle.es_keys.specs.declared.kinds.Target.{Target}
use Rattle.es_keys.specs.declared.kinds.Target.TheVariants as target
use Rattle.es_keys.specs.declared.kinds.Subject.{Subject}
use Rattle.es_keys.specs.Halves.{acts_as_key}
use Rattle.es_records.specs.Records.{RecordsValue, named}

-- whether the subject may make a key with these descriptors: a key that acts itself makes only keys to which descriptors are assigned, each of which grants nothing
unfoldable pub may_make : Subject → List NamedPart → Bool
may_make subject assigned = if acts_as_key subject then has_some assigned && list_all (λ n. grants_nothing n.part) assigned else true

abbrev pub caller_limits : RecordsValue → Caller → List NamedPart
caller_limits records (caller.User user) = named records user.person.roles
caller_limits records (caller.Key kept) = kept.limits

abbrev pub limits_as : RecordsValue → Target → Caller → List NamedPart
limits_as records target.Own c = caller_limits records c
limits_as records (target.As user) c = named records user.person.roles
limits_as records target.Unknown c = []

-- The limits of a key that the subject makes: the descriptors that the acting user's role names have in these records, in the order of the names; of a key that acts itself, its own limits.
unfoldable pub limits_for : RecordsValue → Subject → List NamedPart
limits_for records subject = limits_as records subject.target subject.caller

-- the keys of these ids, each once and in the order of ids; all keys where none are named. Ids that no key has are passed over.
abbrev pub asked_keys : RecordsValue → Option (List (List ℕ)) → List KeyRecord
asked_keys records None = map.values records.keys
asked_keys records (Some ids) = filter_map (λ id. map.get records.keys id) (in_order ids)

-- whether the key's owner has the name, where one is named
abbrev pub is_owned : Option (List ℕ) → KeyRecord → Bool
is_owned None kept = true
is_owned (Some name) kept = bytes_eq kept.owner.username name

-- ids of keys that are invalidated now, and of those that were before
pub record InvalidationValue : Type 0 where
  pub newly : List (List ℕ)
  pub previously : List (List ℕ)

abbrev pub ids_of : List KeyRecord → List (List ℕ)
ids_of keys = list_map (λ kept. kept.id) keys

-- What an invalidation finds of the keys that are asked for and belong to the owner, if one is named: both lists are in the order of ids.
unfoldable pub invalidation : RecordsValue → Option (List (List ℕ)) → Option (List ℕ) → InvalidationValue
invalidation records ids owner = record {
  newly = ids_of (filter (λ kept. is_owned owner kept && not kept.invalidated) (asked_keys records ids));
  previously = ids_of (filter (λ kept. is_owned owner kept && kept.invalidated) (asked_keys records ids));
}

-- the keys of an owner, if one is named, in the order of ids
abbrev pub keys_of : RecordsValue → Option (List ℕ) → List KeyRecord
keys_of records owner = filter (is_owned owner) (map.values records.keys)
