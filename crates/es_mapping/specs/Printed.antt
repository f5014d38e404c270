-- Mappings as they are printed: paths cut at their dots into nested `properties`.
use Rattle.std.specs.Prelude.{ℕ, zero, suc, List, [], ◌∷◌, map, drop, codes, Bool, true, false, ◌&&◌, ◌||◌, if◌then◌else◌}
use Rattle.std.specs.List.{list_all}
use Rattle.std.specs.Str.{bytes_eq}
use Rattle.es_tree.specs.declared.tree.Tree.{Tree}
use Rattle.es_tree.specs.declared.tree.Tree as tree
use Rattle.es_tree.specs.declared.tree.Named.{Named}
use Rattle.es_tree.specs.Rising.{is_before}
use Rattle.es_grammar.specs.Values.{has_some}
use Rattle.es_value.specs.declared.kinds.FieldType.{FieldType}
use Rattle.es_value.specs.declared.kinds.FieldType.TheVariants.{Keyword, Long, Date}
use Rattle.es_mapping.specs.Paths.{pieces}
use Rattle.es_mapping.specs.Mappings.{Typed}

-- the name of a type
abbrev pub type_name : FieldType → List ℕ
type_name Keyword = codes "keyword"
type_name Long = codes "long"
type_name Date = codes "date"

-- one field more before groups of fields with one first name
abbrev pub grouped_with : List ℕ → Typed → List (Named (List Typed)) → List (Named (List Typed))
grouped_with name field [] = record { name = name; value = field ∷ [] } ∷ []
grouped_with name field (g ∷ gs) = if bytes_eq name g.name then record { name = name; value = field ∷ g.value } ∷ gs else record { name = name; value = field ∷ [] } ∷ g ∷ gs

abbrev pub group_first : List (List ℕ) → FieldType → List (Named (List Typed)) → List (Named (List Typed))
group_first [] kind groups = groups
group_first (name ∷ names) kind groups = grouped_with name (names, kind) groups

-- the fields by their first names, which are taken off; fields next to each other with one first name are a group
abbrev pub groups : List Typed → List (Named (List Typed))
groups [] = []
groups (f ∷ fs) = group_first f.0 f.1 (groups fs)

-- an object with this one member
abbrev pub single : List ℕ → Tree → Tree
single name t = tree.Object (record { name = name; value = t } ∷ [])

-- A field whose names have ended prints its type, and others print as properties.
abbrev pub field_tree : (List Typed → Tree) → List Typed → Tree
field_tree properties [] = single (codes "properties") (properties [])
field_tree properties (([], kind) ∷ fields) = single (codes "type") (tree.Text (type_name kind))
field_tree properties ((name ∷ names, kind) ∷ fields) = single (codes "properties") (properties ((name ∷ names, kind) ∷ fields))

-- an object from first names to fields, at most so many names deep
abbrev pub properties_tree : ℕ → List Typed → Tree
properties_tree zero fields = tree.Object []
properties_tree (suc n) fields = tree.Object (map (λ g. record { name = g.name; value = field_tree (properties_tree n) g.value }) (groups fields))

-- a path has at most so many pieces
abbrev pub most_pieces : ℕ
most_pieces = 30

-- the tree of a mapping
unfoldable pub mapping_tree : List (Named FieldType) → Tree
mapping_tree fields = single (codes "properties") (properties_tree most_pieces (map (λ f. (pieces f.name, f.value)) fields))

-- ---- for private clauses

-- what is left of a field's names at a depth
abbrev pub left_at : ℕ → Named FieldType → Typed
left_at depth f = (drop depth (pieces f.name), f.value)

-- the members of an object of properties, whose fields are at most so many names deep
abbrev pub group_trees : ℕ → List Typed → List (Named Tree)
group_trees n fields = map (λ g. record { name = g.name; value = field_tree (properties_tree n) g.value }) (groups fields)

-- the first of the names is this one
abbrev pub is_headed : List ℕ → List (List ℕ) → Bool
is_headed name [] = false
is_headed name (n ∷ names) = bytes_eq n name

-- how many fields at the front have this name first
abbrev pub run_of : List ℕ → List Typed → ℕ
run_of name [] = zero
run_of name (f ∷ fs) = if is_headed name f.0 then suc (run_of name fs) else zero

-- neither list of names begins with the other, and where they part the first one's name comes before
abbrev pub parts_before : List (List ℕ) → List (List ℕ) → Bool
parts_before [] others = false
parts_before (name ∷ names) [] = false
parts_before (name ∷ names) (other ∷ others) = is_before name other || (bytes_eq name other && parts_before names others)

-- the names of each field part from those of all behind it, and come before them
abbrev pub are_parted : List Typed → Bool
are_parted [] = true
are_parted (f ∷ fs) = list_all (λ g. parts_before f.0 g.0) fs && are_parted fs

-- fields that an object of properties has: each has a name left, and they are parted
abbrev pub have_names : List Typed → Bool
have_names fields = list_all (λ f. has_some f.0) fields && are_parted fields
