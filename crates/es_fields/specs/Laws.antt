-- What is seen of a projection.
use Rattle.std.specs.Prelude.{◌≡◌, ℕ, List, [], true, None, if◌then◌else◌}
use Rattle.std.specs.List.{filter}
use Rattle.es_glob.specs.declared.field.FieldRule.{FieldRule}
use Rattle.es_glob.specs.Fields.{rule_grants, grants_all}
use Rattle.es_tree.specs.declared.tree.Tree.{Tree}
use Rattle.es_tree.specs.declared.tree.Named.{Named}
use Rattle.es_tree.specs.Leaves.{leaves_of}
use Rattle.es_tree.specs.Order.{is_ordered}
use Rattle.es_tree.specs.Find.{value_named}
use Rattle.es_value.specs.declared.kinds.FieldType.{FieldType}
use Rattle.es_mapping.specs.Checking.{values_of}
use Rattle.es_mapping.specs.Mappings.{IsWithin}
use Rattle.es_fields.specs.Projection.{project_of, projected_mapping}

-- the scalars of a projection are those of the document whose fields are granted, in their order
abbrev pub LeavesGranted : Type 0
LeavesGranted = (rule : FieldRule) (document : Tree) → leaves_of (project_of rule document) ≡ filter (λ leaf. rule_grants rule leaf.path) (leaves_of document)

-- a projection has its names in the order of their bytes, where the document has
abbrev pub StaysOrdered : Type 0
StaysOrdered = (rule : FieldRule) (document : Tree) → is_ordered document ≡ true → is_ordered (project_of rule document) ≡ true

-- a mapping stays as it is under a rule that grants every field
abbrev pub WholeMapping : Type 0
WholeMapping = (rule : FieldRule) (mapping : List (Named FieldType)) → grants_all rule ≡ true → projected_mapping rule mapping ≡ mapping

-- in a projected mapping a granted field has the type that it has in the mapping, and any other has none
abbrev pub TypeSeen : Type 0
TypeSeen = (rule : FieldRule) (mapping : List (Named FieldType)) (path : List ℕ) → value_named path (projected_mapping rule mapping) ≡ (if rule_grants rule path then value_named path mapping else None)

-- under both projections a granted field has the values that it has in the document under the mapping, and any other has none
abbrev pub ValuesSeen : Type 0
ValuesSeen = (rule : FieldRule) (mapping : List (Named FieldType)) (document : Tree) (path : List ℕ) → values_of (projected_mapping rule mapping) (project_of rule document) path ≡ (if rule_grants rule path then values_of mapping document path else [])

-- under a projected mapping the document itself has the same values as its projection
abbrev pub ValuesAlike : Type 0
ValuesAlike = (rule : FieldRule) (mapping : List (Named FieldType)) (document : Tree) (path : List ℕ) → values_of (projected_mapping rule mapping) document path ≡ values_of (projected_mapping rule mapping) (project_of rule document) path

-- a mapping within another is so too when both are projected
abbrev pub StaysWithin : Type 0
StaysWithin = (rule : FieldRule) (part whole : List (Named FieldType)) → IsWithin part whole → IsWithin (projected_mapping rule part) (projected_mapping rule whole)
