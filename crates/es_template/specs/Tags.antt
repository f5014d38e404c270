-- Tags: what a name between braces stands for, and the pieces of a text.
use Rattle.std.specs.Prelude.{◌≡◌, ℕ, List, [], ◌∷◌, ◌++◌, reverse, codes, Bool, true, not, ◌==◌, ◌&&◌, ◌||◌, Option, Some, None, option_map, option_and_then, if◌then◌else◌}
use Rattle.std.specs.List.{list_all}
use Rattle.std.specs.Str.{bytes_eq}
use Rattle.es_template.specs.declared.kinds.Property.{Property}
use Rattle.es_template.specs.declared.kinds.Property.TheVariants.{Username, FullName, Email, Roles, Metadata}
use Rattle.es_template.specs.declared.kinds.Piece.{Piece}
use Rattle.es_template.specs.declared.kinds.Piece.TheVariants.{Text, Tag}
use Rattle.es_template.specs.Marks.{behind, cut, parts, joined}

abbrev pub opening : List ℕ
opening = codes "{{"

abbrev pub closing : List ℕ
closing = codes "}}"

abbrev pub json_opening : List ℕ
json_opening = codes "{{#toJson}}"

abbrev pub json_closing : List ℕ
json_closing = codes "{{/toJson}}"

-- neither an opening brace nor a closing one
abbrev pub is_plain : ℕ → Bool
is_plain b = not (b == 123 || b == 125)

abbrev pub has_bytes : List ℕ → Bool
has_bytes [] = Bool.false
has_bytes (b ∷ bs) = true

-- a name in the metadata: not empty, and without braces
abbrev pub is_name : List ℕ → Bool
is_name name = has_bytes name && list_all is_plain name

-- these, if each is a name
abbrev pub checked_names : List (List ℕ) → Option (List (List ℕ))
checked_names names = if list_all is_name names then Some names else None

-- the names between the dots
abbrev pub names_of : List ℕ → Option (List (List ℕ))
names_of path = checked_names (parts (codes ".") path)

-- names joined by dots
abbrev pub path_of : List ℕ → Option Property
path_of path = option_map Metadata (names_of path)

-- what a name stands for, if it is a known one
unfoldable pub property_of : List ℕ → Option Property
property_of name =
    if bytes_eq name (codes "_user.username") then Some Username else
    (if bytes_eq name (codes "_user.full_name") then Some FullName else
    (if bytes_eq name (codes "_user.email") then Some Email else
    (if bytes_eq name (codes "_user.roles") then Some Roles else
    option_and_then path_of (behind (codes "_user.metadata.") name))))

-- the name of a property
abbrev pub property_name : Property → List ℕ
property_name Username = codes "_user.username"
property_name FullName = codes "_user.full_name"
property_name Email = codes "_user.email"
property_name Roles = codes "_user.roles"
property_name (Metadata path) = codes "_user.metadata." ++ joined (codes ".") path

-- without the spaces at the front
abbrev pub spaces_dropped : List ℕ → List ℕ
spaces_dropped [] = []
spaces_dropped (b ∷ bs) = if b == 32 then spaces_dropped bs else b ∷ bs

-- without the spaces at the front and at the end
abbrev pub trimmed : List ℕ → List ℕ
trimmed text = reverse (spaces_dropped (reverse (spaces_dropped text)))

-- what the text inside a tag stands for: a known name, with spaces around it or without
unfoldable pub named_in_tag : List ℕ → Option Property
named_in_tag inside = property_of (trimmed inside)

abbrev pub if_whole : Option (List ℕ × List ℕ) → Option Property
if_whole None = None
if_whole (Some (inside, [])) = named_in_tag inside
if_whole (Some (inside, b ∷ bs)) = None

-- what a text stands for that is a toJson tag and nothing else
unfoldable pub hole_of : List ℕ → Option Property
hole_of text = option_and_then (λ rest. if_whole (cut json_closing rest)) (behind json_opening text)

-- plain characters, where there are any
abbrev pub text_pieces : List ℕ → List Piece
text_pieces [] = []
text_pieces (b ∷ bs) = Text (b ∷ bs) ∷ []

abbrev pub tag_and_text : List ℕ × List ℕ → Option (List Piece)
tag_and_text found = option_map (λ property. Tag property ∷ text_pieces found.1) (named_in_tag found.0)

-- what stands behind an opening `{{`: the inside of a tag, `}}`, and plain characters
unfoldable pub tag_pieces : List ℕ → Option (List Piece)
tag_pieces part = option_and_then tag_and_text (cut closing part)

-- the same of each of these
abbrev pub all_tag_pieces : List (List ℕ) → Option (List Piece)
all_tag_pieces [] = Some []
all_tag_pieces (part ∷ later) = option_and_then (λ pieces. option_map (λ more. pieces ++ more) (all_tag_pieces later)) (tag_pieces part)

abbrev pub pieces_of_parts : List (List ℕ) → Option (List Piece)
pieces_of_parts [] = Some []
pieces_of_parts (front ∷ tagged) = option_map (λ more. text_pieces front ++ more) (all_tag_pieces tagged)

-- The pieces of a text. It is cut at each `{{`: plain characters come first, and each part behind a `{{` begins with a tag.
unfoldable pub pieces_of : List ℕ → Option (List Piece)
pieces_of text = pieces_of_parts (parts opening text)

-- ---- for private clauses

-- whether there is something that was added, and that it was
abbrev pub IsAdded : Bool → List Piece → List Piece → Option (List Piece) → Type 0
IsAdded is_tag old new None = is_tag ≡ Bool.false
IsAdded is_tag old new (Some pieces) = (is_tag ≡ true) × (new ≡ old ++ pieces)
