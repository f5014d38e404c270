-- What a cache has of the halves of a subject.
use Rattle.std.specs.Prelude.{◌≡◌, true, false, List, Option, Some, None, is_some, option_map}
use Rattle.std.specs.Map.{lookup}
use Rattle.es_role.specs.declared.kinds.Descriptor.{Descriptor}
use Rattle.es_keys.specs.declared.kinds.RoleKey.{RoleKey}
use Rattle.es_decide.specs.declared.kinds.Halves.{Halves}
use Rattle.es_vault.specs.declared.names.HalfKeys.{HalfKeys}
use Rattle.es_vault.specs.Keys.{same_key}
use Rattle.es_vault.specs.Names.{key_list}
use Rattle.es_vault.specs.Vault.{Roles, has_all}

-- the composed role of a half, if there is one, and if it is cached
abbrev pub found_by : Roles → Option RoleKey → Option (Option (List Descriptor))
found_by roles None = Some None
found_by roles (Some key) = option_map (λ role. Some role) (lookup (same_key key) roles)

-- the composed roles of these halves, each as it is cached; or one isn't
abbrev pub IsFound : Roles → HalfKeys → Option Halves → Type 0
IsFound roles keys (Some halves) =
    (lookup (same_key keys.first) roles ≡ Some halves.first) × (found_by roles keys.limit ≡ Some halves.limit) × (found_by roles keys.target ≡ Some halves.target)
IsFound roles keys None = has_all roles (key_list keys) ≡ false
