-- What the decisions on a subject are made of, and as whom it acts.
use Rattle.std.specs.Prelude.{ℕ, Bool, true, false, ◌&&◌, List, [], ◌∷◌, ◌++◌}
use Rattle.es_tree.specs.declared.person.Person.{Person}
use Rattle.es_keys.specs.declared.kinds.NamedPart.{NamedPart}
use Rattle.es_keys.specs.declared.kinds.Caller.{Caller}
use Rattle.es_keys.specs.declared.kinds.Caller.TheVariants as caller
use Rattle.es_keys.specs.declared.kinds.Target.{Target}
use Rattle.es_keys.specs.declared.kinds.Target.TheVariants as target
use Rattle.es_keys.specs.declared.kinds.Subject.{Subject}
use Rattle.es_keys.specs.declared.kinds.RoleKey.{RoleKey}
use Rattle.es_keys.specs.declared.kinds.RoleKey.TheVariants as role_key

-- a key with assigned descriptors: these, and then its limits; a key without: its limits alone
abbrev pub key_halves : List ℕ → List NamedPart → List RoleKey
key_halves id [] = role_key.Limits id ∷ []
key_halves id (first ∷ others) = role_key.Assigned id ∷ role_key.Limits id ∷ []

-- a user: its roles
abbrev pub caller_halves : Caller → List RoleKey
caller_halves (caller.User user) = role_key.Names user.person.roles ∷ []
caller_halves (caller.Key kept) = key_halves kept.id kept.assigned

-- a user that the caller runs as: its roles
abbrev pub target_halves : Target → List RoleKey
target_halves target.Own = []
target_halves (target.As user) = role_key.Names user.person.roles ∷ []
target_halves target.Unknown = []

-- the halves of a subject: the caller's, and then the target's
unfoldable pub halves_of : Subject → List RoleKey
halves_of subject = caller_halves subject.caller ++ target_halves subject.target

-- the user, or the key's owner as it was when the key was made
abbrev pub caller_person : Caller → Person
caller_person (caller.User user) = user.person
caller_person (caller.Key kept) = kept.owner

-- the target, if it is a user, else the other person
abbrev pub target_or : Target → Person → Person
target_or target.Own other = other
target_or (target.As user) other = user.person
target_or target.Unknown other = other

-- as whom a subject acts: as the target, else as the user or the key's owner
unfoldable pub acting_of : Subject → Person
acting_of subject = target_or subject.target (caller_person subject.caller)

-- whether a caller is an API key
abbrev pub is_key : Caller → Bool
is_key (caller.User user) = false
is_key (caller.Key kept) = true

-- whether no target is named
abbrev pub is_own : Target → Bool
is_own target.Own = true
is_own (target.As user) = false
is_own target.Unknown = false

-- whether it is an API key that acts itself: the caller is a key, and no target is named
unfoldable pub acts_as_key : Subject → Bool
acts_as_key subject = is_key subject.caller && is_own subject.target
