-- Fields with the texts of their paths, as they are found and arranged. For private clauses.
use Rattle.std.specs.Prelude.{ℕ, List, [], ◌∷◌, ◌++◌, map, Option, Some, None, option_map, Result, Ok, Err, Bool, true, false, ◌&&◌, ◌||◌, not, nat_eq, codes}
use Rattle.std.specs.List.{starts_with}
use Rattle.std.specs.Str.{bytes_eq}
use Rattle.es_tree.specs.declared.tree.Tree.{Tree}
use Rattle.es_tree.specs.declared.tree.Named.{Named}
use Rattle.es_tree.specs.Rising.{name_of}
use Rattle.es_tree.specs.Leaves.{under}
use Rattle.es_grammar.specs.Reading.{if_holds, or_empty}
use Rattle.es_grammar.specs.Reading.{◌>>=◌ as ◌then◌}
use Rattle.es_grammar.specs.Members.{members_of, next_of, inside, optional_of, ends_of, each_of}
use Rattle.es_grammar.specs.Values.{spelled_form}
use Rattle.es_value.specs.declared.kinds.FieldType.{FieldType}
use Rattle.es_mapping.specs.Paths.{are_paths}
use Rattle.es_mapping.specs.Mappings.{Typed, type_named, not_dynamic_form, named_field, properties_form, field_at, joined, in_order}

-- the field that these names lead to below a path
abbrev pub field_below : Bool → List ℕ → Typed → Named FieldType
field_below is_top path f = record { name = under is_top path f.0; value = f.1 }

abbrev pub all_below : Bool → List ℕ → List Typed → List (Named FieldType)
all_below is_top path fields = map (field_below is_top path) fields

-- what was read below a path
abbrev pub at_path : Bool → List ℕ → Result (List Typed) (List ℕ) → Result (List (Named FieldType)) (List ℕ)
at_path is_top path reading = reading then λ found. Ok (all_below is_top path found)

abbrev pub at_path_if : Bool → List ℕ → Result (Option (List Typed)) (List ℕ) → Result (Option (List (Named FieldType))) (List ℕ)
at_path_if is_top path reading = reading then λ found. Ok (option_map (all_below is_top path) found)

-- the fields in the members, each read by `form`
abbrev pub fields_of : (Tree → Result (List Typed) (List ℕ)) → List (Named Tree) → Result (List Typed) (List ℕ)
fields_of form ms = each_of (named_field form) ms then λ found. Ok (joined found)

-- what `type` and the fields in `properties` say together of the field at the path
abbrev pub field_with : List ℕ → Option (Option FieldType) → Option (List (Named FieldType)) → Result (List (Named FieldType)) (List ℕ)
field_with path None None = Err []
field_with path None (Some fields) = Ok fields
field_with path (Some None) None = Err []
field_with path (Some None) (Some fields) = Ok fields
field_with path (Some (Some kind)) None = Ok (record { name = path; value = kind } ∷ [])
field_with path (Some (Some kind)) (Some fields) = Err []

-- the fields in the order of their paths, if each two are apart
abbrev pub arranged : List (Named FieldType) → Result (List (Named FieldType)) (List ℕ)
arranged fields = if_holds (are_paths (map name_of fields)) (in_order fields)

-- a field at the path, line by line
abbrev pub field_lines : List ℕ → (Tree → Result (List Typed) (List ℕ)) → Tree → Result (List (Named FieldType)) (List ℕ)
field_lines path inner t =
    members_of t then λ ms. next_of (codes "properties") ms then λ found. at_path_if false path (inside (codes "properties") (properties_form inner) found.0) then λ fields.
    optional_of (codes "type") (spelled_form type_named) found.1 then λ kind. ends_of kind.1 then λ end. field_with path kind.0 fields

-- a mapping, line by line, with fields at most so many levels deep
abbrev pub mapping_lines : ℕ → Tree → Result (List (Named FieldType)) (List ℕ)
mapping_lines levels t =
    members_of t then λ ms. optional_of (codes "dynamic") not_dynamic_form ms then λ dynamic. next_of (codes "properties") dynamic.1 then λ found. at_path_if true [] (inside (codes "properties") (properties_form (field_at levels)) found.0) then λ fields.
    ends_of found.1 then λ end. arranged (or_empty fields)

-- the text is the path, or the path followed by a dot and more
abbrev pub continues : List ℕ → List ℕ → Bool
continues path text = bytes_eq path text || starts_with nat_eq text (path ++ codes ".")

-- no path continues the one before it
abbrev pub neighbours_apart : List (List ℕ) → Bool
neighbours_apart [] = true
neighbours_apart (path ∷ []) = true
neighbours_apart (path ∷ next ∷ paths) = not (continues path next) && neighbours_apart (next ∷ paths)
