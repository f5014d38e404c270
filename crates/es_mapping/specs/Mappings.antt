-- Mappings, as trees are read: the types of the fields of an index.
use Rattle.std.specs.Prelude.{◌≡◌, All, ℕ, zero, suc, ◌-◌, ◌^◌, List, [], ◌∷◌, map, Option, Some, None, Result, Ok, Err, Bool, ◌&&◌, codes, if◌then◌else◌}
use Rattle.std.specs.List.{flat_map}
use Rattle.std.specs.Str.{bytes_eq}
use Rattle.es_tree.specs.declared.tree.Tree.{Tree, out-Tree}
use Rattle.es_tree.specs.declared.tree.Tree.TheOpen.{Tree-F}
use Rattle.es_tree.specs.declared.tree.Named.{Named}
use Rattle.es_tree.specs.Find.{value_named}
use Rattle.es_tree.specs.Rising.{name_of}
use Rattle.es_tree.specs.Leaves.{dotted}
use Rattle.es_grammar.specs.Reading.{if_holds, or_empty}
use Rattle.es_grammar.specs.Reading.{◌>>=◌ as ◌then◌}
use Rattle.es_grammar.specs.Members.{members_of, each_of}
use Rattle.es_grammar.specs.Grammar.{◌>>=◌, object, member, no_more}
use Rattle.es_grammar.specs.Values.{spelled_form}
use Rattle.es_value.specs.declared.kinds.FieldType.{FieldType}
use Rattle.es_value.specs.declared.kinds.FieldType.TheVariants.{Keyword, Long, Date}
use Rattle.es_mapping.specs.Paths.{are_paths, are_rising, comes_before}

-- a type under the names that lead to it, from the outermost
abbrev pub Typed : Type 0
Typed = List (List ℕ) × FieldType

-- the fields below a name: it comes before their own names
abbrev pub headed : List ℕ → List Typed → List Typed
headed name fields = map (λ f. (name ∷ f.0, f.1)) fields

abbrev pub joined : List (List Typed) → List Typed
joined fields = flat_map (λ fs. fs) fields

-- what `type` says: a type, or that the field is an object
abbrev pub type_named : List ℕ → Option (Option FieldType)
type_named name =
    if bytes_eq name (codes "keyword") then Some (Some Keyword) else
    (if bytes_eq name (codes "long") then Some (Some Long) else
    (if bytes_eq name (codes "date") then Some (Some Date) else
    (if bytes_eq name (codes "object") then Some None else None)))

-- A field has a type, or it has `properties` and is an object.
abbrev pub field_of : Option (Option FieldType) → Option (List Typed) → Result (List Typed) (List ℕ)
field_of None None = Err []
field_of None (Some fields) = Ok fields
field_of (Some None) None = Err []
field_of (Some None) (Some fields) = Ok fields
field_of (Some (Some kind)) None = Ok (([], kind) ∷ [])
field_of (Some (Some kind)) (Some fields) = Err []

abbrev pub means_field : Option (Option FieldType) → Option (List Typed) → List (Named Tree) → Result (List Typed × List (Named Tree)) (List ℕ)
means_field kind fields ms = field_of kind fields then λ found. Ok (found, ms)

-- the fields in it, each with its names
abbrev pub named_field : (Tree → Result (List Typed) (List ℕ)) → List ℕ → Tree → Result (List Typed) (List ℕ)
named_field form name t = form t then λ fields. Ok (headed name fields)

-- an object from names to fields, which `form` reads
abbrev pub properties_form : (Tree → Result (List Typed) (List ℕ)) → Tree → Result (List Typed) (List ℕ)
properties_form form t = members_of t then λ ms. each_of (named_field form) ms then λ found. Ok (joined found)

unfoldable pub field_form : (Tree → Result (List Typed) (List ℕ)) → Tree → Result (List Typed) (List ℕ)
field_form inner = object (do
  fields ← member (codes "properties") (properties_form inner)
  kind ← member (codes "type") (spelled_form type_named)
  end ← no_more
  means_field kind fields)

-- a field whose `properties` stand at most so many levels inside one another
abbrev pub field_at : ℕ → Tree → Result (List Typed) (List ℕ)
field_at zero t = Err []
field_at (suc n) t = field_form (field_at n) t

abbrev pub not_dynamic_in : Tree-F Tree → Result (Unit {0}) (List ℕ)
not_dynamic_in Tree-F.Null = Err []
not_dynamic_in (Tree-F.Bool b) = if b then Err [] else Ok tt
not_dynamic_in (Tree-F.Int z) = Err []
not_dynamic_in (Tree-F.Text s) = if bytes_eq s (codes "false") then Ok tt else Err []
not_dynamic_in (Tree-F.List ts) = Err []
not_dynamic_in (Tree-F.Object ms) = Err []

-- `false`, or its text
abbrev pub not_dynamic_form : Tree → Result (Unit {0}) (List ℕ)
not_dynamic_form t = not_dynamic_in (out-Tree t)

-- each field with its path
abbrev pub with_paths : List Typed → List (Named FieldType)
with_paths fields = map (λ f. record { name = dotted f.0; value = f.1 }) fields

-- one field more at its place among fields in the order of their paths
abbrev pub with_field : Named FieldType → List (Named FieldType) → List (Named FieldType)
with_field f [] = f ∷ []
with_field f (g ∷ gs) = if comes_before f.name g.name then f ∷ g ∷ gs else g ∷ with_field f gs

-- the fields in the order of their paths
abbrev pub in_order : List (Named FieldType) → List (Named FieldType)
in_order [] = []
in_order (f ∷ fs) = with_field f (in_order fs)

-- What a mapping is: fields in the order of their paths, of which each two are apart.
abbrev pub is_mapping : List (Named FieldType) → Bool
is_mapping fields = are_paths (map name_of fields) && are_rising (map name_of fields)

-- each field of the part is one of the whole, with the same type
abbrev pub IsWithin : List (Named FieldType) → List (Named FieldType) → Type 0
IsWithin part whole = All (λ f. value_named f.name whole ≡ Some f.value) part

abbrev pub mapping_of : List (Named FieldType) → List (Named Tree) → Result (List (Named FieldType) × List (Named Tree)) (List ℕ)
mapping_of fields ms = if_holds (are_paths (map name_of fields)) (in_order fields) then λ found. Ok (found, ms)

-- more levels than any tree in memory has
unfoldable pub most_levels : ℕ
most_levels = 2 ^ 64 - 1

-- The mapping that a tree is. A rule on its paths is broken at the whole of it.
unfoldable pub mapping_form : Tree → Result (List (Named FieldType)) (List ℕ)
mapping_form = object (do
  dynamic ← member (codes "dynamic") not_dynamic_form
  fields ← member (codes "properties") (properties_form (field_at most_levels))
  end ← no_more
  mapping_of (with_paths (or_empty fields)))
