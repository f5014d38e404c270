-- Sources of templates: objects, and texts that are read as objects.
use Rattle.std.specs.Prelude.{◌≡◌, ℕ, List, [], ◌∷◌, ◌++◌, ◌==◌, Option, Some, None, Result, Ok, Err, fold, if◌then◌else◌, is_some}
use Rattle.std.specs.List.{list_all}
use Rattle.json.specs.Print.{quoted}
use Rattle.es_tree.specs.declared.tree.Tree.{Tree, out-Tree}
use Rattle.es_tree.specs.declared.tree.Tree.TheOpen.{Tree-F}
use Rattle.es_tree.specs.declared.tree.Tree.TheFolds.{fold-Tree}
use Rattle.es_tree.specs.declared.tree.Named.{Named}
use Rattle.es_tree.specs.declared.fault.TreeFault.{TreeFault}
use Rattle.es_tree.specs.Read.{read_of}
use Rattle.es_grammar.specs.Reading.{◌>>=◌, below, wanted}
use Rattle.es_grammar.specs.Values.{items_of, object_form}
use Rattle.es_template.specs.declared.kinds.Property.{Property}
use Rattle.es_template.specs.declared.kinds.Template.{Template}
use Rattle.es_template.specs.declared.kinds.Template as template
use Rattle.es_template.specs.declared.kinds.Standing.{Standing}
use Rattle.es_template.specs.declared.kinds.Standing.TheVariants.{Outside, Inside, Escaped}
use Rattle.es_template.specs.Marks.{cut, parts}
use Rattle.es_template.specs.Tags.{opening, json_opening, json_closing, is_plain, hole_of, pieces_of}

-- ---- trees

abbrev pub hole_or_text : Option Property → List ℕ → Result Template (List ℕ)
hole_or_text (Some property) s = Ok (template.Hole property)
hole_or_text None s = wanted (pieces_of s) >>= λ pieces. Ok (template.Text pieces)

-- a text that is a toJson tag and nothing else is a hole; any other has pieces
unfoldable pub text_template : List ℕ → Result Template (List ℕ)
text_template s = hole_or_text (hole_of s) s

-- a name without an opening `{{`, kept as it is
abbrev pub name_form : List ℕ → Result (List ℕ) (List ℕ)
name_form name = if is_some (cut opening name) then Err [] else Ok name

-- a member: first its name, then its value
abbrev pub member_form : {A : Type 0} → Named (Result A (List ℕ)) → Result (Named A) (List ℕ)
member_form m = do
  name ← below m.name (name_form m.name)
  value ← below m.name m.value
  Ok (record { name = name; value = value })

-- the members in order
abbrev pub members_form : {A : Type 0} → List (Named (Result A (List ℕ))) → Result (List (Named A)) (List ℕ)
members_form [] = Ok []
members_form (m ∷ ms) = do
  first ← member_form m
  later ← members_form ms
  Ok (first ∷ later)

-- one level, with what each tree inside means in its place
abbrev pub template_step : Tree-F (Result Template (List ℕ)) → Result Template (List ℕ)
template_step Tree-F.Null = Ok template.Null
template_step (Tree-F.Bool b) = Ok (template.Bool b)
template_step (Tree-F.Int z) = Ok (template.Int z)
template_step (Tree-F.Text s) = text_template s
template_step (Tree-F.List rs) = items_of (λ r. r) 0 rs >>= λ items. Ok (template.List items)
template_step (Tree-F.Object ms) = members_form ms >>= λ members. Ok (template.Object members)

-- the template that a tree is, or the place of its first fault
unfoldable pub template_form : Tree → Result Template (List ℕ)
template_form = fold-Tree (Result Template (List ℕ)) template_step

-- ---- source texts

-- where the next byte stands
abbrev pub stands_after : Standing → ℕ → Standing
stands_after Outside b = if b == 34 then Inside else Outside
stands_after Inside b = if b == 34 then Outside else (if b == 92 then Escaped else Inside)
stands_after Escaped b = Inside

-- where what follows these bytes stands
abbrev pub stands_behind : Standing → List ℕ → Standing
stands_behind = fold stands_after

abbrev pub if_plain : List ℕ × List ℕ → Option (List ℕ × List ℕ)
if_plain found = if list_all is_plain found.0 then Some found else None

abbrev pub tag_inside_of : Option (List ℕ × List ℕ) → Option (List ℕ × List ℕ)
tag_inside_of None = None
tag_inside_of (Some found) = if_plain found

-- what is inside the toJson tag that begins right before this part, and what follows the tag
unfoldable pub tag_inside : List ℕ → Option (List ℕ × List ℕ)
tag_inside part = tag_inside_of (cut json_closing part)

-- what is written for a part of a source text, and where what follows it stands
abbrev pub Written : Type 0
Written = List ℕ × Standing

abbrev pub kept_part : Standing → List ℕ → Written
kept_part standing part = (json_opening ++ part, stands_behind (stands_behind standing json_opening) part)

abbrev pub outside_part : List ℕ → Option (List ℕ × List ℕ) → Written
outside_part part None = kept_part Outside part
outside_part part (Some (inside, rest)) = (quoted (json_opening ++ (inside ++ json_closing)) ++ rest, stands_behind Outside rest)

-- Outside of strings a toJson tag becomes the JSON string of itself. Anything else is kept.
abbrev pub written_part : Standing → List ℕ → Written
written_part Outside part = outside_part part (tag_inside part)
written_part Inside part = kept_part Inside part
written_part Escaped part = kept_part Escaped part

-- the same of each part that follows an opening `{{#toJson}}`
abbrev pub written_parts : Standing → List (List ℕ) → List ℕ
written_parts standing [] = []
written_parts standing (part ∷ later) = (written_part standing part).0 ++ written_parts (written_part standing part).1 later

abbrev pub quoted_in_parts : List (List ℕ) → List ℕ
quoted_in_parts [] = []
quoted_in_parts (front ∷ marked) = front ++ written_parts (stands_behind Outside front) marked

-- a source text with each toJson tag outside of JSON strings in quotes
unfoldable pub with_quoted_tags : List ℕ → List ℕ
with_quoted_tags text = quoted_in_parts (parts json_opening text)

abbrev pub or_fault_here : Result Tree TreeFault → Result Tree (List ℕ)
or_fault_here (Ok t) = Ok t
or_fault_here (Err fault) = Err []

-- the object that a source text is; a text that can't be read, or is none, is a fault at the text itself
unfoldable pub source_object : List ℕ → Result Tree (List ℕ)
source_object text = or_fault_here (read_of (with_quoted_tags text)) >>= object_form

-- ---- sources

-- the template of the object that a text is
abbrev pub text_source : List ℕ → Result Template (List ℕ)
text_source text = source_object text >>= template_form

abbrev pub source_in : Tree → Tree-F Tree → Result Template (List ℕ)
source_in t Tree-F.Null = Err []
source_in t (Tree-F.Bool b) = Err []
source_in t (Tree-F.Int z) = Err []
source_in t (Tree-F.Text s) = text_source s
source_in t (Tree-F.List ts) = Err []
source_in t (Tree-F.Object ms) = template_form t

-- the template of a source: of an object, or of the object that a text is
unfoldable pub source_form : Tree → Result Template (List ℕ)
source_form t = source_in t (out-Tree t)

-- ---- for private clauses

-- a member with what its value means
abbrev pub member_reading : Named Tree → Named (Result Template (List ℕ))
member_reading m = record { name = m.name; value = template_form m.value }

-- what was written, and where what follows it stands
pub record IsWritten (old new : List ℕ) (after : Standing) (written : Written) : Type 0 where
  pub text : new ≡ old ++ written.0
  pub standing : after ≡ written.1
