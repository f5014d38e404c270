-- Templates as they are printed.
use Rattle.std.specs.Prelude.{ℕ, List, ◌++◌}
use Rattle.std.specs.List.{flat_map}
use Rattle.es_tree.specs.declared.tree.Tree.{Tree}
use Rattle.es_tree.specs.declared.tree.Tree as tree
use Rattle.es_template.specs.declared.kinds.Property.{Property}
use Rattle.es_template.specs.declared.kinds.Piece.{Piece}
use Rattle.es_template.specs.declared.kinds.Piece.TheVariants.{Text, Tag}
use Rattle.es_template.specs.declared.kinds.Template.{Template}
use Rattle.es_template.specs.declared.kinds.Template.TheOpen.{Template-F}
use Rattle.es_template.specs.declared.kinds.Template.TheFolds.{fold-Template}
use Rattle.es_template.specs.Tags.{opening, closing, json_opening, json_closing, property_name}

-- plain characters, or the tag without spaces
abbrev pub piece_text : Piece → List ℕ
piece_text (Text s) = s
piece_text (Tag property) = opening ++ (property_name property ++ closing)

-- the toJson tag without spaces
abbrev pub hole_text : Property → List ℕ
hole_text property = json_opening ++ (property_name property ++ json_closing)

abbrev pub printed_step : Template-F Tree → Tree
printed_step Template-F.Null = tree.Null
printed_step (Template-F.Bool b) = tree.Bool b
printed_step (Template-F.Int z) = tree.Int z
printed_step (Template-F.Text pieces) = tree.Text (flat_map piece_text pieces)
printed_step (Template-F.Hole property) = tree.Text (hole_text property)
printed_step (Template-F.List ts) = tree.List ts
printed_step (Template-F.Object ms) = tree.Object ms

-- the tree that a template prints as
unfoldable pub template_tree : Template → Tree
template_tree = fold-Template Tree printed_step
