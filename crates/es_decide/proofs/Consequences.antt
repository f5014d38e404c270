-- What decisions say of one another.
use Rattle.std.proofs.Common.{◌≡◌, ℕ, List, [], Option, Some, None, option_map, is_some, Bool, true, false, ◌&&◌, refl, ap, ap₂, ◌∙◌}
use Rattle.std.proofs.lemmas.Bool.{false≢true}
use Rattle.es_tree.specs.declared.person.Person.{Person}
use Rattle.es_priv.specs.declared.kinds.Action.{Action}
use Rattle.es_role.specs.declared.kinds.Descriptor.{Descriptor}
use Rattle.es_cred.specs.declared.users.UserRecord.{UserRecord}
use Rattle.es_compose.specs.declared.kinds.Permission.{Permission}
use Rattle.es_compose.specs.Roles.{role_grants, role_grants_cluster}
use Rattle.es_compose.specs.Permissions.{permission_of, limited, IsAlone}
use Rattle.es_compose.proofs.Counting.{grants_by_counting}
use Rattle.es_keys.specs.declared.kinds.Target.{Target}
use Rattle.es_keys.specs.declared.kinds.Target.TheVariants.{Own, As, Unknown}
use Rattle.es_keys.specs.declared.kinds.Subject.{Subject}
use Rattle.es_keys.specs.Halves.{acting_of, caller_person, target_or}
use Rattle.es_decide.specs.declared.kinds.Halves.{Halves}
use Rattle.es_decide.specs.Decisions.{ActingHalves, alone, given, own, acting_for, acting_halves, allowed, each_half, permitted_for, limited_by, granted, granted_cluster, permitted}
use Rattle.es_decide.specs.Laws.{GrantedPermits, LimitNarrows, KeyIsLimited, TargetAlone, UnknownIsRefused, OneIsAlone}

-- ---- one half, and two

one_granted : (role : List Descriptor) (person : Person) (action : Action) (index : List ℕ) → role_grants role action index ≡ (permission_of role person action index).granted
unfolding permission_of
one_granted role person action index = grants_by_counting role action index

and_true : (b : Bool) → (b && true) ≡ b
and_true true = refl
and_true false = refl

each_granted : (person : Person) (action : Action) (index : List ℕ) (half : List Descriptor) (limit : Option (List Descriptor))
    → (role_grants half action index && allowed (λ role. role_grants role action index) limit) ≡ (limited_by (option_map (λ role. permission_of role person action index) limit) (permission_of half person action index)).granted
unfolding limited
each_granted person action index half None = and_true (role_grants half action index) ∙ one_granted half person action index
each_granted person action index half (Some limits) = ap₂ (λ a b. a && b) (one_granted half person action index) (one_granted limits person action index)

pub granted_permits : GrantedPermits
unfolding granted permitted
granted_permits subject halves action index =
    let acting = acting_halves subject halves in
    each_granted (acting_of subject) action index acting.half acting.limit

-- ---- which halves decide

abbrev limited_to : List Descriptor → Option (List Descriptor) → ActingHalves
limited_to half limit = record { half = half; limit = limit }

own_of : (target : Target) (halves : Halves) (limits : List Descriptor) → target ≡ Own → halves.limit ≡ Some limits → acting_for target halves ≡ limited_to halves.first (Some limits)
unfolding acting_for own
own_of target halves limits is limit = ap (λ t. acting_for t halves) is ∙ ap (limited_to halves.first) limit

target_of : (target : Target) (halves : Halves) (user : UserRecord) (descriptors : List Descriptor) → target ≡ As user → halves.target ≡ Some descriptors → acting_for target halves ≡ alone descriptors
unfolding acting_for
target_of target halves user descriptors is half = ap (λ t. acting_for t halves) is ∙ ap (λ h. alone (given h)) half

-- ---- limits

pub limit_narrows : LimitNarrows
unfolding granted granted_cluster permitted
limit_narrows subject halves limits is limit =
    let halves_are = own_of subject.target halves limits is limit in
    record {
      grants = λ action index. ap (each_half (λ half. role_grants half action index)) halves_are;
      grants_cluster = λ action. ap (each_half (λ half. role_grants_cluster half action)) halves_are;
      permits = λ action index. ap (permitted_for (acting_of subject) action index) halves_are;
    }

limit_given : (limit : Option (List Descriptor)) → is_some limit ≡ true → limit ≡ Some (given limit)
limit_given None e = absurd (false≢true e)
limit_given (Some limits) e = refl

pub key_is_limited : KeyIsLimited
key_is_limited subject halves fitting is assigned = limit_narrows subject halves (given halves.limit) is (limit_given halves.limit (fitting.limit ∙ assigned))

-- ---- targets

acting_target : (subject : Subject) (user : UserRecord) → subject.target ≡ As user → acting_of subject ≡ user.person
unfolding acting_of
acting_target subject user is = ap (λ t. target_or t (caller_person subject.caller)) is

pub target_alone : TargetAlone
unfolding granted granted_cluster permitted
target_alone subject halves user descriptors is half =
    let halves_are = target_of subject.target halves user descriptors is half in
    record {
      grants = λ action index. ap (each_half (λ half. role_grants half action index)) halves_are ∙ and_true (role_grants descriptors action index);
      grants_cluster = λ action. ap (each_half (λ half. role_grants_cluster half action)) halves_are ∙ and_true (role_grants_cluster descriptors action);
      permits = λ action index. ap (permitted_for (acting_of subject) action index) halves_are ∙ ap (λ person. permission_of descriptors person action index) (acting_target subject user is);
    }

-- ---- nobody

nobody_of : (target : Target) (halves : Halves) → target ≡ Unknown → acting_for target halves ≡ alone []
unfolding acting_for
nobody_of target halves is = ap (λ t. acting_for t halves) is

pub unknown_is_refused : UnknownIsRefused
unfolding granted granted_cluster role_grants role_grants_cluster
unknown_is_refused subject halves is =
    let halves_are = nobody_of subject.target halves is in
    record {
      grants = λ action index. ap (each_half (λ half. role_grants half action index)) halves_are;
      grants_cluster = λ action. ap (each_half (λ half. role_grants_cluster half action)) halves_are;
    }

-- ---- one half alone

permission_alone : (role : List Descriptor) (person : Person) (action : Action) (index : List ℕ) → IsAlone (permission_of role person action index)
unfolding permission_of
permission_alone role person action index = record { docs = refl; fields = refl }

half_alone : (person : Person) (action : Action) (index : List ℕ) (acting : ActingHalves) → acting.limit ≡ None → IsAlone (permitted_for person action index acting)
half_alone person action index acting is =
    let permission = permission_of acting.half person action index in
    let by = λ (limit : Option (List Descriptor)). limited_by (option_map (λ role. permission_of role person action index) limit) permission in
    let same : permitted_for person action index acting ≡ permission = ap by is in
    let one = permission_alone acting.half person action index in
    record { docs = ap (λ (p : Permission). p.docs.second) same ∙ one.docs; fields = ap (λ (p : Permission). p.fields.second) same ∙ one.fields }

pub one_is_alone : OneIsAlone
unfolding permitted
one_is_alone subject halves action index is = half_alone (acting_of subject) action index (acting_halves subject halves) is
