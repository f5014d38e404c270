-- The tree of each kind of template, as it is printed and as it is filled.
use Rattle.std.proofs.Common.{◌≡◌, ℤ, List, map, Bool, rules}
use Rattle.std.specs.List.{flat_map}
use Rattle.es_tree.specs.declared.tree.Tree.{Tree}
use Rattle.es_tree.specs.declared.tree.Tree as tree
use Rattle.es_tree.specs.declared.tree.Named.{Named}
use Rattle.es_tree.specs.declared.person.Person.{Person}
use Rattle.es_grammar.specs.Printing.{named_tree}
use Rattle.es_template.specs.declared.kinds.Property.{Property}
use Rattle.es_template.specs.declared.kinds.Piece.{Piece}
use Rattle.es_template.specs.declared.kinds.Template.{Template, the_lemmas}
use Rattle.es_template.specs.declared.kinds.Template as template
use Rattle.es_template.specs.Printed.{piece_text, hole_text, template_tree}
use Rattle.es_template.specs.Filling.{value_of, filled_piece, filled}

pub template_tree_Null : template_tree template.Null ≡ tree.Null
unfolding template_tree
template_tree_Null = search (rules, the_lemmas)

pub template_tree_Bool : (b : Bool) → template_tree (template.Bool b) ≡ tree.Bool b
unfolding template_tree
template_tree_Bool b = search (rules, the_lemmas)

pub template_tree_Int : (z : ℤ) → template_tree (template.Int z) ≡ tree.Int z
unfolding template_tree
template_tree_Int z = search (rules, the_lemmas)

pub template_tree_Text : (pieces : List Piece) → template_tree (template.Text pieces) ≡ tree.Text (flat_map piece_text pieces)
unfolding template_tree
template_tree_Text pieces = search (rules, the_lemmas)

pub template_tree_Hole : (property : Property) → template_tree (template.Hole property) ≡ tree.Text (hole_text property)
unfolding template_tree
template_tree_Hole property = search (rules, the_lemmas)

pub template_tree_List : (ts : List Template) → template_tree (template.List ts) ≡ tree.List (map template_tree ts)
unfolding template_tree
template_tree_List ts = search (rules, the_lemmas)

pub template_tree_Object : (ms : List (Named Template)) → template_tree (template.Object ms) ≡ tree.Object (map (named_tree template_tree) ms)
unfolding template_tree
template_tree_Object ms = search (rules, the_lemmas)

pub ruleset template_trees = (template_tree_Null, template_tree_Bool, template_tree_Int, template_tree_Text, template_tree_Hole, template_tree_List, template_tree_Object)

pub filled_Null : (person : Person) → filled person template.Null ≡ tree.Null
unfolding filled
filled_Null person = search (rules, the_lemmas)

pub filled_Bool : (person : Person) (b : Bool) → filled person (template.Bool b) ≡ tree.Bool b
unfolding filled
filled_Bool person b = search (rules, the_lemmas)

pub filled_Int : (person : Person) (z : ℤ) → filled person (template.Int z) ≡ tree.Int z
unfolding filled
filled_Int person z = search (rules, the_lemmas)

pub filled_Text : (person : Person) (pieces : List Piece) → filled person (template.Text pieces) ≡ tree.Text (flat_map (filled_piece person) pieces)
unfolding filled
filled_Text person pieces = search (rules, the_lemmas)

pub filled_Hole : (person : Person) (property : Property) → filled person (template.Hole property) ≡ value_of person property
unfolding filled
filled_Hole person property = search (rules, the_lemmas)

pub filled_List : (person : Person) (ts : List Template) → filled person (template.List ts) ≡ tree.List (map (filled person) ts)
unfolding filled
filled_List person ts = search (rules, the_lemmas)

pub filled_Object : (person : Person) (ms : List (Named Template)) → filled person (template.Object ms) ≡ tree.Object (map (named_tree (filled person)) ms)
unfolding filled
filled_Object person ms = search (rules, the_lemmas)

pub ruleset filled_trees = (filled_Null, filled_Bool, filled_Int, filled_Text, filled_Hole, filled_List, filled_Object)
