-- The fields that are still possible along a path, for private clauses.
use Rattle.std.specs.Prelude.{ℕ, List, [], ◌∷◌, drop, Option, Some, None, ◌==◌, codes, if◌then◌else◌}
use Rattle.std.specs.Option.{option_or, option_copied}
use Rattle.std.specs.Ordering.{nat_cmp}
use Rattle.std.specs.declared.cmp.Ordering.{Ordering}
use Rattle.std.specs.declared.cmp.Ordering.TheVariants.{Less, Greater}
use Rattle.std.specs.Str.{bytes_eq}
use Rattle.es_tree.specs.declared.tree.Tree.{Tree, out-Tree}
use Rattle.es_tree.specs.declared.tree.Named.{Named}
use Rattle.es_tree.specs.Leaves.{Path, dotted_after}
use Rattle.es_value.specs.declared.kinds.FieldType.{FieldType}
use Rattle.es_mapping.specs.declared.narrowing.Possible.{Possible}
use Rattle.es_mapping.specs.Checking.{fault_of, is_null_in}

-- two bytes that differ, in paths that are alike before them: a dot ends a piece, so it comes first
abbrev pub byte_cmp : ℕ → ℕ → Ordering
byte_cmp a b = if a == 46 then Less else (if b == 46 then Greater else nat_cmp a b)

-- what a field's path has from a place on
abbrev pub left_from : ℕ → Named FieldType → List ℕ
left_from from f = drop from f.name

-- the first field of which this is left
abbrev pub field_left : ℕ → List ℕ → List (Named FieldType) → Option (Named FieldType)
field_left from text [] = None
field_left from text (f ∷ fs) = if bytes_eq (left_from from f) text then Some f else field_left from text fs

-- the field at a path, the length of the path with its last dot, and the fields whose paths go on there
abbrev pub Rest : Type 0
Rest = Option (Named FieldType) × ℕ × List (Named FieldType)

abbrev pub rest_of : Possible → Rest
rest_of possible = (option_copied possible.field, possible.from, possible.fields.now)

-- the field that these names lead to
abbrev pub field_under : Rest → List (List ℕ) → Option (Named FieldType)
field_under rest [] = rest.0
field_under rest (name ∷ names) = field_left rest.1 (dotted_after name names) rest.2

-- the fault of a scalar in the field
abbrev pub fault_under : Option (Named FieldType) → Tree → Option (List ℕ × FieldType)
fault_under None t = None
fault_under (Some f) t = fault_of (Some f.value) (record { path = f.name; value = t }) (is_null_in (out-Tree t))

-- the first fault of the scalars at these paths
abbrev pub first_along : Rest → List Path → Option (List ℕ × FieldType)
first_along rest [] = None
first_along rest (p ∷ ps) = option_or (fault_under (field_under rest p.0) p.1) (first_along rest ps)
