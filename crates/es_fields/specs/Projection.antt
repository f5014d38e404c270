-- What a rule over fields leaves of a document and of a mapping.
use Rattle.std.specs.Prelude.{ℕ, List, [], ◌∷◌, Bool, Option, Some, None, if◌then◌else◌}
use Rattle.std.specs.Option.{option_map}
use Rattle.std.specs.List.{filter, filter_map}
use Rattle.es_glob.specs.declared.field.FieldRule.{FieldRule}
use Rattle.es_glob.specs.Fields.{rule_grants, grants_all}
use Rattle.es_tree.specs.declared.tree.Tree.{Tree}
use Rattle.es_tree.specs.declared.tree.Tree as tree
use Rattle.es_tree.specs.declared.tree.Tree.TheOpen.{Tree-F}
use Rattle.es_tree.specs.declared.tree.Tree.TheFolds.{fold-Tree}
use Rattle.es_tree.specs.declared.tree.Named.{Named}
use Rattle.es_tree.specs.Leaves.{dotted}
use Rattle.es_value.specs.declared.kinds.FieldType.{FieldType}

-- a test of the names that lead to a scalar, from the outermost
abbrev pub NamesTest : Type 0
NamesTest = List (List ℕ) → Bool

-- the test of the names that go on behind a member's name
abbrev pub test_behind : NamesTest → List ℕ → NamesTest
test_behind granted name names = granted (name ∷ names)

-- a scalar is left where the test holds with no names further
abbrev pub scalar_if : NamesTest → Tree → Option Tree
scalar_if granted t = if granted [] then Some t else None

-- the list of what is left of its items; nothing is left of a list without items
abbrev pub list_if_any : List Tree → Option Tree
list_if_any [] = None
list_if_any (t ∷ ts) = Some (tree.List (t ∷ ts))

-- the object of what is left of its members; nothing is left of an object without members
abbrev pub object_if_any : List (Named Tree) → Option Tree
object_if_any [] = None
object_if_any (m ∷ ms) = Some (tree.Object (m ∷ ms))

-- a member of this name, where something is left of its value
abbrev pub member_if : List ℕ → Option Tree → Option (Named Tree)
member_if name value = option_map (λ t. record { name = name; value = t }) value

-- A scalar, null too, is left where the test holds of the names that lead to it. A list adds no name, and an object that of the member. Of both nothing is left where nothing is left inside.
abbrev pub left_step : Tree-F (NamesTest → Option Tree) → NamesTest → Option Tree
left_step Tree-F.Null granted = scalar_if granted tree.Null
left_step (Tree-F.Bool b) granted = scalar_if granted (tree.Bool b)
left_step (Tree-F.Int z) granted = scalar_if granted (tree.Int z)
left_step (Tree-F.Text s) granted = scalar_if granted (tree.Text s)
left_step (Tree-F.List items) granted = list_if_any (filter_map (λ item. item granted) items)
left_step (Tree-F.Object ms) granted = object_if_any (filter_map (λ m. member_if m.name (m.value (test_behind granted m.name))) ms)

-- what is left of a tree, if anything is
unfoldable pub left_of : Tree → NamesTest → Option Tree
left_of = fold-Tree (NamesTest → Option Tree) left_step

-- whether the rule grants the field to which these names lead, by its path
abbrev pub grants_names : FieldRule → NamesTest
grants_names rule names = rule_grants rule (dotted names)

-- an object without members, where nothing is left
abbrev pub or_no_members : Option Tree → Tree
or_no_members None = tree.Object []
or_no_members (Some t) = t

-- The projection of a document: the document itself where the rule grants every field. Else the scalars go whose fields it doesn't grant, then from the inside out all lists and objects that are empty, and the outermost object stays.
unfoldable pub project_of : FieldRule → Tree → Tree
project_of rule document = if grants_all rule then document else or_no_members (left_of document (grants_names rule))

-- the fields of a mapping that the rule grants, in their order
unfoldable pub projected_mapping : FieldRule → List (Named FieldType) → List (Named FieldType)
projected_mapping rule mapping = filter (λ field. rule_grants rule field.name) mapping
