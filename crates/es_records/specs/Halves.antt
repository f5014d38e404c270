-- The halves by which the requests of a subject are decided, in these records.
use Rattle.std.specs.Prelude.{◌≡◌, ⊤, ℕ, List, [], ◌∷◌, Option, Some, None, option_map}
use Rattle.std.specs.FinMap as map
use Rattle.es_role.specs.declared.kinds.Descriptor.{Descriptor}
use Rattle.es_keys.specs.declared.kinds.NamedPart.{NamedPart}
use Rattle.es_keys.specs.declared.kinds.KeyRecord.{KeyRecord}
use Rattle.es_keys.specs.declared.kinds.RoleKey.{RoleKey}
use Rattle.es_keys.specs.declared.kinds.RoleKey.TheVariants.{Names, Assigned, Limits}
use Rattle.es_keys.specs.declared.kinds.Caller.{Caller}
use Rattle.es_keys.specs.declared.kinds.Caller.TheVariants as caller
use Rattle.es_keys.specs.declared.kinds.Target.{Target}
use Rattle.es_keys.specs.declared.kinds.Target.TheVariants as target
use Rattle.es_keys.specs.declared.kinds.Subject.{Subject}
use Rattle.es_decide.specs.declared.kinds.Halves.{Halves}
use Rattle.es_records.specs.Records.{RecordsValue, parts_of, descriptors_of}

-- the assigned descriptors and the limits of a key, if there is one
abbrev pub assigned_in : Option KeyRecord → List Descriptor
assigned_in None = []
assigned_in (Some kept) = parts_of kept.assigned

abbrev pub limits_in : Option KeyRecord → List Descriptor
limits_in None = []
limits_in (Some kept) = parts_of kept.limits

-- the descriptors that the name of a half stands for
unfoldable pub roles_of : RecordsValue → RoleKey → List Descriptor
roles_of records (Names names) = descriptors_of records names
roles_of records (Assigned id) = assigned_in (map.get records.keys id)
roles_of records (Limits id) = limits_in (map.get records.keys id)

-- a key's first half: its assigned descriptors, and its limits where it has none assigned
abbrev pub key_first : List NamedPart → List NamedPart → List Descriptor
key_first [] limits = parts_of limits
key_first (n ∷ ns) limits = parts_of (n ∷ ns)

-- its limiting half: its limits, where it has assigned descriptors
abbrev pub key_limit : List NamedPart → List NamedPart → Option (List Descriptor)
key_limit [] limits = None
key_limit (n ∷ ns) limits = Some (parts_of limits)

-- a user's roles as they stand; a key's descriptors as it was made with them
abbrev pub first_half : RecordsValue → Caller → List Descriptor
first_half records (caller.User user) = descriptors_of records user.person.roles
first_half records (caller.Key kept) = key_first kept.assigned kept.limits

abbrev pub limit_half : Caller → Option (List Descriptor)
limit_half (caller.User user) = None
limit_half (caller.Key kept) = key_limit kept.assigned kept.limits

abbrev pub target_half : RecordsValue → Target → Option (List Descriptor)
target_half records target.Own = None
target_half records (target.As user) = Some (descriptors_of records user.person.roles)
target_half records target.Unknown = None

-- The halves of a subject in these records.
unfoldable pub halves_in : RecordsValue → Subject → Halves
halves_in records subject = record { first = first_half records subject.caller; limit = limit_half subject.caller; target = target_half records subject.target }

-- ---- the same by the names of the halves

abbrev pub key_first_name : List ℕ → List NamedPart → RoleKey
key_first_name id [] = Limits id
key_first_name id (n ∷ ns) = Assigned id

abbrev pub key_limit_name : List ℕ → List NamedPart → Option RoleKey
key_limit_name id [] = None
key_limit_name id (n ∷ ns) = Some (Limits id)

abbrev pub first_name : Caller → RoleKey
first_name (caller.User user) = Names user.person.roles
first_name (caller.Key kept) = key_first_name kept.id kept.assigned

abbrev pub limit_name : Caller → Option RoleKey
limit_name (caller.User user) = None
limit_name (caller.Key kept) = key_limit_name kept.id kept.assigned

abbrev pub target_name : Target → Option RoleKey
target_name target.Own = None
target_name (target.As user) = Some (Names user.person.roles)
target_name target.Unknown = None

-- the halves of a subject, where each name of a half stands for these descriptors
unfoldable pub halves_by : (RoleKey → List Descriptor) → Subject → Halves
halves_by roles subject = record { first = roles (first_name subject.caller); limit = option_map roles (limit_name subject.caller); target = option_map roles (target_name subject.target) }

-- the key that calls is the one that stands at its id
abbrev pub IsOf : RecordsValue → Caller → Type 0
IsOf records (caller.User user) = ⊤
IsOf records (caller.Key kept) = map.get records.keys kept.id ≡ Some kept
