-- What decisions say of one another.
use Rattle.std.specs.Prelude.{◌≡◌, ℕ, List, Some, None, true, false, ◌&&◌}
use Rattle.es_priv.specs.declared.kinds.Action.{Action}
use Rattle.es_priv.specs.declared.kinds.ClusterAction.{ClusterAction}
use Rattle.es_role.specs.declared.kinds.Descriptor.{Descriptor}
use Rattle.es_compose.specs.Roles.{role_grants, role_grants_cluster}
use Rattle.es_compose.specs.Permissions.{permission_of, limited, IsAlone}
use Rattle.es_cred.specs.declared.users.UserRecord.{UserRecord}
use Rattle.es_keys.specs.declared.kinds.Target.TheVariants.{Own, As, Unknown}
use Rattle.es_keys.specs.declared.kinds.Subject.{Subject}
use Rattle.es_keys.specs.Halves.{acting_of}
use Rattle.es_decide.specs.declared.kinds.Halves.{Halves}
use Rattle.es_decide.specs.Decisions.{given, acting_halves, granted, granted_cluster, permitted, has_assigned, IsFitting}

-- an action on an index is granted exactly where the permission says so
abbrev pub GrantedPermits : Type 0
GrantedPermits = (subject : Subject) (halves : Halves) (action : Action) (index : List ℕ)
    → granted subject halves action index ≡ (permitted subject halves action index).granted

-- what the subject may do, its first half and these limits allow each of them alone
pub record IsNarrowed (subject : Subject) (halves : Halves) (limits : List Descriptor) : Type 0 where
  pub grants : (action : Action) (index : List ℕ) → granted subject halves action index ≡ (role_grants halves.first action index && role_grants limits action index)
  pub grants_cluster : (action : ClusterAction) → granted_cluster subject halves action ≡ (role_grants_cluster halves.first action && role_grants_cluster limits action)
  pub permits : (action : Action) (index : List ℕ) → permitted subject halves action index ≡ limited (permission_of halves.first (acting_of subject) action index) (permission_of limits (acting_of subject) action index)

-- who acts as itself with a limit may do what both halves allow
abbrev pub LimitNarrows : Type 0
LimitNarrows = (subject : Subject) (halves : Halves) (limits : List Descriptor) → subject.target ≡ Own → halves.limit ≡ Some limits → IsNarrowed subject halves limits

-- a key with assigned descriptors that acts as itself may do what both halves allow, where the halves have the form that the subject wants
abbrev pub KeyIsLimited : Type 0
KeyIsLimited = (subject : Subject) (halves : Halves) → IsFitting subject halves → subject.target ≡ Own → has_assigned subject.caller ≡ true → IsNarrowed subject halves (given halves.limit)

-- what the subject may do, these descriptors allow the user alone
pub record IsOf (subject : Subject) (halves : Halves) (user : UserRecord) (descriptors : List Descriptor) : Type 0 where
  pub grants : (action : Action) (index : List ℕ) → granted subject halves action index ≡ role_grants descriptors action index
  pub grants_cluster : (action : ClusterAction) → granted_cluster subject halves action ≡ role_grants_cluster descriptors action
  pub permits : (action : Action) (index : List ℕ) → permitted subject halves action index ≡ permission_of descriptors user.person action index

-- who acts as another user may do what that user's half allows that user, whoever calls, and whatever the caller's own halves are
abbrev pub TargetAlone : Type 0
TargetAlone = (subject : Subject) (halves : Halves) (user : UserRecord) (descriptors : List Descriptor) → subject.target ≡ As user → halves.target ≡ Some descriptors → IsOf subject halves user descriptors

-- nothing is granted to the subject
pub record IsRefused (subject : Subject) (halves : Halves) : Type 0 where
  pub grants : (action : Action) (index : List ℕ) → granted subject halves action index ≡ false
  pub grants_cluster : (action : ClusterAction) → granted_cluster subject halves action ≡ false

-- nothing is granted to who acts as a user that isn't known
abbrev pub UnknownIsRefused : Type 0
UnknownIsRefused = (subject : Subject) (halves : Halves) → subject.target ≡ Unknown → IsRefused subject halves

-- what one half permits alone has no second clauses
abbrev pub OneIsAlone : Type 0
OneIsAlone = (subject : Subject) (halves : Halves) (action : Action) (index : List ℕ) → (acting_halves subject halves).limit ≡ None → IsAlone (permitted subject halves action index)
