-- What a cache has of the halves of a subject.
use Rattle.std.proofs.Common.{◌≡◌, ℕ, List, [], ◌∷◌, ◌++◌, All, Bool, true, false, ◌&&◌, Option, Some, None, option_map, is_some, refl, sym, ap, ap₂, subst, ◌∙◌}
use Rattle.std.specs.List.{list_all}
use Rattle.std.specs.Map.{lookup}
use Rattle.std.proofs.lemmas.List.Elements.{All-contains}
use Rattle.std.proofs.lemmas.Map.Views.{Contains-from_lookup}
use Rattle.es_role.specs.declared.kinds.Descriptor.{Descriptor}
use Rattle.es_keys.specs.declared.kinds.RoleKey.{RoleKey}
use Rattle.es_keys.specs.declared.kinds.Subject.{Subject}
use Rattle.es_keys.specs.Halves.{halves_of}
use Rattle.es_decide.specs.declared.kinds.Halves.{Halves}
use Rattle.es_records.specs.Records.{RecordsValue}
use Rattle.es_records.specs.Halves.{roles_of, halves_in, halves_by, first_name, limit_name, target_name, IsOf}
use Rattle.es_records.specs.Laws.{listed}
use Rattle.es_records.proofs.Deciding.{halves_tell}
use Rattle.es_vault.specs.declared.names.HalfKeys.{HalfKeys}
use Rattle.es_vault.specs.Keys.{same_key}
use Rattle.es_vault.specs.Names.{keys_for, key_list}
use Rattle.es_vault.specs.Same.{same_key_decides}
use Rattle.es_vault.specs.Vault.{Roles, IsRight, AreRight, has_all}
use Rattle.es_vault.specs.Found.{found_by, IsFound}

-- the names of a subject's halves, in the order of the steps
pub listed_keys : (records : RecordsValue) (subject : Subject) → IsOf records subject.caller → key_list (keys_for subject) ≡ halves_of subject
listed_keys records subject is = sym (halves_tell records subject is).names

-- a composed role that is found is that of the records
pub found_right : (records : RecordsValue) (roles : Roles) (key : RoleKey) (role : List Descriptor) → AreRight records roles → lookup (same_key key) roles ≡ Some role → role ≡ roles_of records key
found_right records roles key role right found =
    (All-contains (IsRight records) roles (key, role) right (Contains-from_lookup (λ x y. (same_key_decides x y).0) key role roles found)).roles

found_where : (records : RecordsValue) (roles : Roles) (key : Option RoleKey) (role : Option (List Descriptor)) → AreRight records roles → found_by roles key ≡ Some role → role ≡ option_map (roles_of records) key
found_where records roles None role right found = cc found
found_where records roles (Some key) role right found = inner (lookup (same_key key) roles) refl found
  where
    inner : (o : Option (List Descriptor)) → lookup (same_key key) roles ≡ o → option_map (λ r. Some r) o ≡ Some role → role ≡ Some (roles_of records key)
    inner None is same = cc same
    inner (Some r) is same = let whole : role ≡ Some r = cc same in whole ∙ ap (λ d. Some d) (found_right records roles key r right is)

-- the halves that are found are those of the records
pub halves_right : (records : RecordsValue) (roles : Roles) (subject : Subject) (keys : HalfKeys) (halves : Halves) → AreRight records roles → IsOf records subject.caller → keys ≡ keys_for subject
    → IsFound roles keys (Some halves) → halves ≡ halves_in records subject
unfolding halves_by
halves_right records roles subject keys halves right is names found =
    let first = found_right records roles keys.first halves.first right found.0 in
    let limit = found_where records roles keys.limit halves.limit right found.1 in
    let target = found_where records roles keys.target halves.target right found.2 in
    let whole : halves ≡ halves_by (roles_of records) subject = λ i. record {
      first = (first ∙ ap (λ (k : HalfKeys). roles_of records k.first) names) i;
      limit = (limit ∙ ap (λ (k : HalfKeys). option_map (roles_of records) k.limit) names) i;
      target = (target ∙ ap (λ (k : HalfKeys). option_map (roles_of records) k.target) names) i;
    } in
    whole ∙ (halves_tell records subject is).same

-- ---- whether each is cached

cached : Roles → RoleKey → Bool
cached roles key = is_some (lookup (same_key key) roles)

and_more : (b whole one other : Bool) → whole ≡ (one && other) → (b && whole) ≡ ((b && one) && other)
and_more true whole one other is = is
and_more false whole one other is = refl

all_append : (roles : Roles) (keys others : List RoleKey) → has_all roles (keys ++ others) ≡ (has_all roles keys && has_all roles others)
all_append roles [] others = refl
all_append roles (key ∷ keys) others = and_more (is_some (lookup (same_key key) roles)) _ _ _ (all_append roles keys others)

-- whether what there may be is cached
all_listed : (roles : Roles) (key : Option RoleKey) → has_all roles (listed key) ≡ is_some (found_by roles key)
all_listed roles None = refl
all_listed roles (Some key) = inner (lookup (same_key key) roles)
  where
    inner : (o : Option (List Descriptor)) → (is_some o && true) ≡ is_some (option_map (λ r. Some r) o)
    inner None = refl
    inner (Some r) = refl

-- all are cached exactly where each of the three is
pub all_three : (roles : Roles) (keys : HalfKeys)
    → has_all roles (key_list keys) ≡ (is_some (lookup (same_key keys.first) roles) && (is_some (found_by roles keys.limit) && is_some (found_by roles keys.target)))
all_three roles keys =
    ap (λ b. is_some (lookup (same_key keys.first) roles) && b) (all_append roles (listed keys.limit) (listed keys.target) ∙ ap₂ (λ b c. b && c) (all_listed roles keys.limit) (all_listed roles keys.target))

and_false : (b : Bool) → (b && false) ≡ false
and_false true = refl
and_false false = refl

-- one of them isn't
pub first_missing : (roles : Roles) (keys : HalfKeys) → lookup (same_key keys.first) roles ≡ None → has_all roles (key_list keys) ≡ false
first_missing roles keys none = all_three roles keys ∙ ap (λ o. is_some o && (is_some (found_by roles keys.limit) && is_some (found_by roles keys.target))) none

pub limit_missing : (roles : Roles) (keys : HalfKeys) → found_by roles keys.limit ≡ None → has_all roles (key_list keys) ≡ false
limit_missing roles keys none =
    all_three roles keys ∙ ap (λ o. is_some (lookup (same_key keys.first) roles) && (is_some o && is_some (found_by roles keys.target))) none ∙ and_false (is_some (lookup (same_key keys.first) roles))

pub target_missing : (roles : Roles) (keys : HalfKeys) → found_by roles keys.target ≡ None → has_all roles (key_list keys) ≡ false
target_missing roles keys none =
    all_three roles keys ∙ ap (λ o. is_some (lookup (same_key keys.first) roles) && (is_some (found_by roles keys.limit) && is_some o)) none
    ∙ ap (λ b. is_some (lookup (same_key keys.first) roles) && b) (and_false (is_some (found_by roles keys.limit))) ∙ and_false (is_some (lookup (same_key keys.first) roles))

-- all are
pub all_found : (roles : Roles) (keys : HalfKeys) (halves : Halves) → IsFound roles keys (Some halves) → has_all roles (key_list keys) ≡ true
all_found roles keys halves found =
    all_three roles keys ∙ ap (λ o. is_some o && (is_some (found_by roles keys.limit) && is_some (found_by roles keys.target))) found.0
    ∙ ap (λ o. is_some o && is_some (found_by roles keys.target)) found.1 ∙ ap is_some found.2
