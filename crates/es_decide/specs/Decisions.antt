-- What a subject may do: which halves decide, and what they grant and permit together.
use Rattle.std.specs.Prelude.{◌≡◌, ℕ, List, [], Option, Some, None, option_map, Bool, true, false, ◌&&◌, is_some}
use Rattle.es_tree.specs.declared.person.Person.{Person}
use Rattle.es_priv.specs.declared.kinds.Action.{Action}
use Rattle.es_priv.specs.declared.kinds.ClusterAction.{ClusterAction}
use Rattle.es_grammar.specs.Values.{has_some}
use Rattle.es_role.specs.declared.kinds.Descriptor.{Descriptor}
use Rattle.es_compose.specs.declared.kinds.Permission.{Permission}
use Rattle.es_compose.specs.Roles.{role_grants, role_grants_cluster}
use Rattle.es_compose.specs.Permissions.{permission_of, limited, role_runs_as}
use Rattle.es_keys.specs.declared.kinds.Caller.{Caller}
use Rattle.es_keys.specs.declared.kinds.Caller.TheVariants.{User, Key}
use Rattle.es_keys.specs.declared.kinds.Target.{Target}
use Rattle.es_keys.specs.declared.kinds.Target.TheVariants.{Own, As, Unknown}
use Rattle.es_keys.specs.declared.kinds.Subject.{Subject}
use Rattle.es_keys.specs.Halves.{acting_of}
use Rattle.es_decide.specs.declared.kinds.Halves.{Halves}

-- halves that decide together: one, and the one that limits it, if any
pub record ActingHalves : Type 0 where
  pub half : List Descriptor
  pub limit : Option (List Descriptor)

-- a half that nothing limits
abbrev pub alone : List Descriptor → ActingHalves
alone descriptors = record { half = descriptors; limit = None }

-- the descriptors of a half that may be absent: then there are none, and nothing is granted by them
abbrev pub given : Option (List Descriptor) → List Descriptor
given None = []
given (Some descriptors) = descriptors

-- the caller's own halves: the first, and the limit where there is one
unfoldable pub own : Halves → ActingHalves
own halves = record { half = halves.first; limit = halves.limit }

-- the halves that decide for one who acts as the target: its own where it names no target, and where it names a user that user's alone, be it the caller itself. For a user that isn't known there are no descriptors.
unfoldable pub acting_for : Target → Halves → ActingHalves
acting_for Own halves = own halves
acting_for (As user) halves = alone (given halves.target)
acting_for Unknown halves = alone []

-- the halves that decide for the subject
abbrev pub acting_halves : Subject → Halves → ActingHalves
acting_halves subject halves = acting_for subject.target halves

-- whether a limit allows something: one that isn't there does
abbrev pub allowed : (List Descriptor → Bool) → Option (List Descriptor) → Bool
allowed allows None = true
allowed allows (Some limit) = allows limit

-- whether each of the halves allows something
abbrev pub each_half : (List Descriptor → Bool) → ActingHalves → Bool
each_half allows halves = allows halves.half && allowed allows halves.limit

-- whether one with these halves may act as the target: always where it names none, as a user that it names, be it the caller itself, where each half lets it run as that user, and never as a user that isn't known
abbrev pub runs_as_target : Target → ActingHalves → Bool
runs_as_target Own halves = true
runs_as_target (As user) halves = each_half (λ half. role_runs_as half user.person.username) halves
runs_as_target Unknown halves = false

-- Whether the caller may act as it asks to: its own halves decide.
unfoldable pub runs_as : Subject → Halves → Bool
runs_as subject halves = runs_as_target subject.target (own halves)

-- Whether the action on the index is granted: each half that decides grants it.
unfoldable pub granted : Subject → Halves → Action → List ℕ → Bool
granted subject halves action index = each_half (λ half. role_grants half action index) (acting_halves subject halves)

-- Whether the action on the cluster is granted: each half that decides grants it.
unfoldable pub granted_cluster : Subject → Halves → ClusterAction → Bool
granted_cluster subject halves action = each_half (λ half. role_grants_cluster half action) (acting_halves subject halves)

-- a permission, and only what the limits permit as well, where there are some
abbrev pub limited_by : Option Permission → Permission → Permission
limited_by None permission = permission
limited_by (Some limits) permission = limited permission limits

-- what each of the halves permits the person
abbrev pub permitted_for : Person → Action → List ℕ → ActingHalves → Permission
permitted_for person action index halves = limited_by (option_map (λ limit. permission_of limit person action index) halves.limit) (permission_of halves.half person action index)

-- What is permitted for the action on the index: what each half that decides permits the person who acts.
unfoldable pub permitted : Subject → Halves → Action → List ℕ → Permission
permitted subject halves action index = permitted_for (acting_of subject) action index (acting_halves subject halves)

-- whether the caller is a key with assigned descriptors
abbrev pub has_assigned : Caller → Bool
has_assigned (User user) = false
has_assigned (Key key) = has_some key.assigned

-- whether the target is another user that is known
abbrev pub is_as : Target → Bool
is_as Own = false
is_as (As user) = true
is_as Unknown = false

-- the halves have the form that the subject wants: a limit exactly where the caller is a key with assigned descriptors, and a target's half exactly where it acts as another user
pub record IsFitting (subject : Subject) (halves : Halves) : Type 0 where
  pub limit : is_some halves.limit ≡ has_assigned subject.caller
  pub target : is_some halves.target ≡ is_as subject.target
