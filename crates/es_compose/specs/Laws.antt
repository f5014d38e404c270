-- What reading, checking and printing say of one another.
use Rattle.std.specs.Prelude.{◌≡◌, Ok}
use Rattle.es_tree.specs.declared.tree.Tree.{Tree}
use Rattle.es_role.specs.declared.kinds.Descriptor.{Descriptor}
use Rattle.es_compose.specs.declared.query.RoleQuery.{RoleQuery}
use Rattle.es_compose.specs.Checked.{role_query_form, role_query_tree, checked_form, IsChecked}

-- what is printed of a role's query that was read reads back to it
abbrev pub QueryBack : Type 0
QueryBack = (t : Tree) (found : RoleQuery) → role_query_form t ≡ Ok found → role_query_form (role_query_tree found) ≡ Ok found

-- a descriptor that was read and checked is checked
abbrev pub CheckedBack : Type 0
CheckedBack = (t : Tree) (descriptor : Descriptor) → checked_form t ≡ Ok descriptor → IsChecked descriptor
