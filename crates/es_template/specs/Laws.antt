-- What reading, printing and filling templates say of one another.
use Rattle.std.specs.Prelude.{◌≡◌, ℤ, List, [], ◌∷◌, Bool, true, false, ◌&&◌, ◌||◌, Ok, IsTrue, is_some}
use Rattle.std.specs.Bool.{beq}
use Rattle.std.specs.Ordering.{int_eq}
use Rattle.std.specs.Str.{bytes_eq}
use Rattle.es_tree.specs.declared.tree.Tree.{Tree, out-Tree}
use Rattle.es_tree.specs.declared.tree.Tree.TheOpen.{Tree-F}
use Rattle.es_tree.specs.declared.tree.Tree.TheFolds.{fold-Tree}
use Rattle.es_tree.specs.declared.tree.Named.{Named}
use Rattle.es_tree.specs.Nulls.{is_null}
use Rattle.es_tree.specs.declared.person.Person.{Person}
use Rattle.es_template.specs.declared.kinds.Template.{Template}
use Rattle.es_template.specs.Tags.{hole_of}
use Rattle.es_template.specs.Sources.{template_form, source_form}
use Rattle.es_template.specs.Printed.{template_tree}
use Rattle.es_template.specs.Filling.{filled, fill}

-- what is printed of a template that was read reads back to it
abbrev pub TemplateBack : Type 0
TemplateBack = (t : Tree) (template : Template) → source_form t ≡ Ok template → source_form (template_tree template) ≡ Ok template

-- filling a template that was read is substitution in the tree that it was read from
abbrev pub FilledInTree : Type 0
FilledInTree = (person : Person) (t : Tree) (template : Template) → template_form t ≡ Ok template → filled person template ≡ fill person t

-- ---- shapes

abbrev pub is_truth : Bool → Tree-F Tree → Bool
is_truth b Tree-F.Null = false
is_truth b (Tree-F.Bool c) = beq b c
is_truth b (Tree-F.Int z) = false
is_truth b (Tree-F.Text s) = false
is_truth b (Tree-F.List ts) = false
is_truth b (Tree-F.Object ms) = false

abbrev pub is_number : ℤ → Tree-F Tree → Bool
is_number z Tree-F.Null = false
is_number z (Tree-F.Bool b) = false
is_number z (Tree-F.Int y) = int_eq z y
is_number z (Tree-F.Text s) = false
is_number z (Tree-F.List ts) = false
is_number z (Tree-F.Object ms) = false

abbrev pub is_text : Tree-F Tree → Bool
is_text Tree-F.Null = false
is_text (Tree-F.Bool b) = false
is_text (Tree-F.Int z) = false
is_text (Tree-F.Text s) = true
is_text (Tree-F.List ts) = false
is_text (Tree-F.Object ms) = false

-- as many, each of the shape of the one at its place
abbrev pub are_shaped : List (Tree → Bool) → List Tree → Bool
are_shaped [] [] = true
are_shaped [] (t ∷ ts) = false
are_shaped (shaped ∷ later) [] = false
are_shaped (shaped ∷ later) (t ∷ ts) = shaped t && are_shaped later ts

-- the same names in the same order, each with a value of the shape of the one at its place
abbrev pub members_shaped : List (Named (Tree → Bool)) → List (Named Tree) → Bool
members_shaped [] [] = true
members_shaped [] (m ∷ ms) = false
members_shaped (shaped ∷ later) [] = false
members_shaped (shaped ∷ later) (m ∷ ms) = bytes_eq shaped.name m.name && (shaped.value m.value && members_shaped later ms)

abbrev pub is_list_of : List (Tree → Bool) → Tree-F Tree → Bool
is_list_of shapes Tree-F.Null = false
is_list_of shapes (Tree-F.Bool b) = false
is_list_of shapes (Tree-F.Int z) = false
is_list_of shapes (Tree-F.Text s) = false
is_list_of shapes (Tree-F.List ts) = are_shaped shapes ts
is_list_of shapes (Tree-F.Object ms) = false

abbrev pub is_object_of : List (Named (Tree → Bool)) → Tree-F Tree → Bool
is_object_of shapes Tree-F.Null = false
is_object_of shapes (Tree-F.Bool b) = false
is_object_of shapes (Tree-F.Int z) = false
is_object_of shapes (Tree-F.Text s) = false
is_object_of shapes (Tree-F.List ts) = false
is_object_of shapes (Tree-F.Object ms) = members_shaped shapes ms

abbrev pub shape_step : Tree-F (Tree → Bool) → Tree → Bool
shape_step Tree-F.Null u = is_null u
shape_step (Tree-F.Bool b) u = is_truth b (out-Tree u)
shape_step (Tree-F.Int z) u = is_number z (out-Tree u)
shape_step (Tree-F.Text s) u = is_some (hole_of s) || is_text (out-Tree u)
shape_step (Tree-F.List shapes) u = is_list_of shapes (out-Tree u)
shape_step (Tree-F.Object shapes) u = is_object_of shapes (out-Tree u)

-- A tree has the shape of another: the same lists and objects with the same names, the same numbers, truth values and nulls, and texts where there are texts. In place of a toJson tag it has anything.
unfoldable pub has_shape_of : Tree → Tree → Bool
has_shape_of = fold-Tree (Tree → Bool) shape_step

-- a template that was read gives for every person a tree of the shape of the one that it was read from
abbrev pub ShapeKept : Type 0
ShapeKept = (person : Person) (t : Tree) (template : Template) → template_form t ≡ Ok template → IsTrue (has_shape_of t (filled person template))
