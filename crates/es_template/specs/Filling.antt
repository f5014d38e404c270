-- Templates that are filled for a person.
use Rattle.std.specs.Prelude.{ℕ, List, [], ◌∷◌, ◌++◌, map, Option, Some, None}
use Rattle.std.specs.List.{flat_map}
use Rattle.es_tree.specs.declared.tree.Tree.{Tree, out-Tree}
use Rattle.es_tree.specs.declared.tree.Tree as tree
use Rattle.es_tree.specs.declared.tree.Tree.TheOpen.{Tree-F}
use Rattle.es_tree.specs.declared.tree.Tree.TheFolds.{fold-Tree}
use Rattle.es_tree.specs.declared.person.Person.{Person}
use Rattle.es_tree.specs.Find.{member_of}
use Rattle.es_tree.specs.Text.{text_of}
use Rattle.es_template.specs.declared.kinds.Property.{Property}
use Rattle.es_template.specs.declared.kinds.Property.TheVariants.{Username, FullName, Email, Roles, Metadata}
use Rattle.es_template.specs.declared.kinds.Piece.{Piece}
use Rattle.es_template.specs.declared.kinds.Piece.TheVariants.{Text, Tag}
use Rattle.es_template.specs.declared.kinds.Template.{Template}
use Rattle.es_template.specs.declared.kinds.Template.TheOpen.{Template-F}
use Rattle.es_template.specs.declared.kinds.Template.TheFolds.{fold-Template}
use Rattle.es_template.specs.Marks.{cut, parts}
use Rattle.es_template.specs.Tags.{opening, closing, named_in_tag, hole_of}

-- ---- values

abbrev pub text_or_null : Option (List ℕ) → Tree
text_or_null None = tree.Null
text_or_null (Some s) = tree.Text s

abbrev pub then_at : Option Tree → (Tree → Tree) → Tree
then_at None further = tree.Null
then_at (Some t) further = further t

-- what the names lead to, through the members of objects, one name at a time; null where one of them is absent
abbrev pub value_at : List (List ℕ) → Tree → Tree
value_at [] t = t
value_at (name ∷ names) t = then_at (member_of name t) (value_at names)

-- the value of a property; null where the person has none
abbrev pub value_of : Person → Property → Tree
value_of person Username = tree.Text person.username
value_of person FullName = text_or_null person.full_name
value_of person Email = text_or_null person.email
value_of person Roles = tree.List (map tree.Text person.roles)
value_of person (Metadata path) = value_at path person.metadata

abbrev pub tag_text_in : Tree → Tree-F Tree → List ℕ
tag_text_in t Tree-F.Null = []
tag_text_in t (Tree-F.Bool b) = text_of t
tag_text_in t (Tree-F.Int z) = text_of t
tag_text_in t (Tree-F.Text s) = s
tag_text_in t (Tree-F.List ts) = text_of t
tag_text_in t (Tree-F.Object ms) = text_of t

-- What a value is inside a text: a text's own characters, nothing for null, and the compact JSON of anything else.
abbrev pub tag_text : Tree → List ℕ
tag_text t = tag_text_in t (out-Tree t)

-- ---- templates

-- plain characters, or the text of a tag's value
abbrev pub filled_piece : Person → Piece → List ℕ
filled_piece person (Text s) = s
filled_piece person (Tag property) = tag_text (value_of person property)

abbrev pub filled_step : Person → Template-F Tree → Tree
filled_step person Template-F.Null = tree.Null
filled_step person (Template-F.Bool b) = tree.Bool b
filled_step person (Template-F.Int z) = tree.Int z
filled_step person (Template-F.Text pieces) = tree.Text (flat_map (filled_piece person) pieces)
filled_step person (Template-F.Hole property) = value_of person property
filled_step person (Template-F.List ts) = tree.List ts
filled_step person (Template-F.Object ms) = tree.Object ms

-- the tree that a template gives for the person
unfoldable pub filled : Person → Template → Tree
filled person = fold-Template Tree (filled_step person)

-- ---- trees

abbrev pub value_and_rest : Person → List ℕ → List ℕ → Option Property → List ℕ
value_and_rest person part rest None = opening ++ part
value_and_rest person part rest (Some property) = tag_text (value_of person property) ++ rest

abbrev pub replaced_by : Person → List ℕ → Option (List ℕ × List ℕ) → List ℕ
replaced_by person part None = opening ++ part
replaced_by person part (Some (inside, rest)) = value_and_rest person part rest (named_in_tag inside)

-- a part behind an opening `{{`, with the text of the value in place of the tag that begins right before it
abbrev pub replaced_part : Person → List ℕ → List ℕ
replaced_part person part = replaced_by person part (cut closing part)

abbrev pub replaced_parts : Person → List (List ℕ) → List ℕ
replaced_parts person [] = []
replaced_parts person (front ∷ tagged) = front ++ flat_map (replaced_part person) tagged

-- a text with the text of its value in place of each tag
unfoldable pub replaced : Person → List ℕ → List ℕ
replaced person s = replaced_parts person (parts opening s)

abbrev pub value_or_text : Person → Option Property → List ℕ → Tree
value_or_text person (Some property) s = value_of person property
value_or_text person None s = tree.Text (replaced person s)

abbrev pub fill_step : Person → Tree-F Tree → Tree
fill_step person Tree-F.Null = tree.Null
fill_step person (Tree-F.Bool b) = tree.Bool b
fill_step person (Tree-F.Int z) = tree.Int z
fill_step person (Tree-F.Text s) = value_or_text person (hole_of s) s
fill_step person (Tree-F.List ts) = tree.List ts
fill_step person (Tree-F.Object ms) = tree.Object ms

-- a tree with the value in place of each text that is a toJson tag, and in each other text the value's text in place of each tag
unfoldable pub fill : Person → Tree → Tree
fill person = fold-Tree Tree (fill_step person)

-- ---- for private clauses

abbrev pub or_null : Option Tree → Tree
or_null None = tree.Null
or_null (Some t) = t
