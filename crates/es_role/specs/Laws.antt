-- What reading and printing descriptors say of one another.
use Rattle.std.specs.Prelude.{◌≡◌, Option, Some, None, Ok}
use Rattle.es_tree.specs.declared.tree.Tree.{Tree}
use Rattle.es_glob.specs.declared.field.FieldPair.{FieldPair}
use Rattle.es_role.specs.declared.kinds.Descriptor.{Descriptor}
use Rattle.es_role.specs.Descriptors.{pair_form, descriptor_form}
use Rattle.es_role.specs.Printed.{pair_tree, descriptor_tree}

-- what is printed of a descriptor that was read reads back to it
abbrev pub DescriptorBack : Type 0
DescriptorBack = (t : Tree) (d : Descriptor) → descriptor_form t ≡ Ok d → descriptor_form (descriptor_tree d) ≡ Ok d

-- ---- for private clauses

-- what is printed of the rule over fields reads back to it, where there is one
abbrev pub FieldsBack : Option FieldPair → Type 0
FieldsBack None = Unit {0}
FieldsBack (Some pair) = pair_form (pair_tree pair) ≡ Ok pair
