-- The names of halves, as the keys of a cache.
use Rattle.std.specs.Prelude.{ℕ, Bool, false, List, nat_eq}
use Rattle.std.specs.List.{flat_map}
use Rattle.std.specs.Cmp.Lexicographic.{pointwise}
use Rattle.std.specs.Hash as fed
use Rattle.es_keys.specs.declared.kinds.RoleKey.{RoleKey}
use Rattle.es_keys.specs.declared.kinds.RoleKey.TheVariants.{Names, Assigned, Limits}

-- whether the texts are the same, one after the other
abbrev pub same_names : List (List ℕ) → List (List ℕ) → Bool
same_names = pointwise (pointwise nat_eq)

-- whether they name the same half
unfoldable pub same_key : RoleKey → RoleKey → Bool
same_key (Names names) (Names others) = same_names names others
same_key (Names names) (Assigned id) = false
same_key (Names names) (Limits id) = false
same_key (Assigned id) (Names names) = false
same_key (Assigned id) (Assigned other) = pointwise nat_eq id other
same_key (Assigned id) (Limits other) = false
same_key (Limits id) (Names names) = false
same_key (Limits id) (Assigned other) = false
same_key (Limits id) (Limits other) = pointwise nat_eq id other

-- what a key feeds a hasher: its texts
abbrev pub fed_key : RoleKey → fed.HashWrites
fed_key (Names names) = flat_map fed.str names
fed_key (Assigned id) = fed.str id
fed_key (Limits id) = fed.str id
