-- Documents under a mapping.
use Rattle.std.specs.Prelude.{◌≡◌, ℕ, List, [], ◌∷◌, Option, Some, None, Result, Ok, Err, Bool, true, false}
use Rattle.std.specs.List.{filter_map}
use Rattle.std.specs.Option.{option_or}
use Rattle.es_tree.specs.declared.tree.Tree.{Tree, out-Tree}
use Rattle.es_tree.specs.declared.tree.Tree.TheOpen.{Tree-F}
use Rattle.es_tree.specs.declared.tree.Named.{Named}
use Rattle.es_tree.specs.declared.kinds.Leaf.{Leaf}
use Rattle.es_tree.specs.Find.{value_named}
use Rattle.es_tree.specs.Leaves.{leaves_of}
use Rattle.es_path.specs.Scalars.{scalars_at}
use Rattle.es_value.specs.declared.kinds.FieldType.{FieldType}
use Rattle.es_value.specs.declared.kinds.Value.{Value}
use Rattle.es_value.specs.Values.{typed}
use Rattle.es_mapping.specs.declared.kinds.ValueFault.{ValueFault}
use Rattle.es_mapping.specs.declared.kinds.ValueFault.TheVariants.{BadValue, NoMemory}

abbrev pub typed_at : Option FieldType → List Tree → List Value
typed_at None ts = []
typed_at (Some kind) ts = filter_map (typed kind) ts

-- the typed values of the scalars at a path, in the document's order; none where the mapping doesn't have the path
unfoldable pub values_of : List (Named FieldType) → Tree → List ℕ → List Value
values_of mapping t path = typed_at (value_named path mapping) (scalars_at path t)

abbrev pub is_null_in : Tree-F Tree → Bool
is_null_in Tree-F.Null = true
is_null_in (Tree-F.Bool b) = false
is_null_in (Tree-F.Int z) = false
is_null_in (Tree-F.Text s) = false
is_null_in (Tree-F.List ts) = false
is_null_in (Tree-F.Object ms) = false

-- the path and the wanted type, of a scalar that isn't of this type
abbrev pub unless_typed : List ℕ → FieldType → Option Value → Option (List ℕ × FieldType)
unless_typed path kind None = Some (path, kind)
unless_typed path kind (Some v) = None

abbrev pub fault_of : Option FieldType → Leaf → Bool → Option (List ℕ × FieldType)
fault_of None leaf is_null = None
fault_of (Some kind) leaf true = None
fault_of (Some kind) leaf false = unless_typed leaf.path kind (typed kind leaf.value)

abbrev pub fault_at : List (Named FieldType) → Leaf → Option (List ℕ × FieldType)
fault_at mapping leaf = fault_of (value_named leaf.path mapping) leaf (is_null_in (out-Tree leaf.value))

-- the first non-null scalar at a mapped path that isn't of its type
abbrev pub first_fault : List (Named FieldType) → List Leaf → Option (List ℕ × FieldType)
first_fault mapping [] = None
first_fault mapping (leaf ∷ leaves) = option_or (fault_at mapping leaf) (first_fault mapping leaves)

unfoldable pub fault_in : List (Named FieldType) → Tree → Option (List ℕ × FieldType)
fault_in mapping t = first_fault mapping (leaves_of t)

-- ---- for clauses

abbrev pub IsFault : ValueFault → Option (List ℕ × FieldType) → Type 0
IsFault (BadValue path kind) found = found ≡ Some (path, kind)
IsFault NoMemory found = Unit {0}

-- the check finds nothing, or this fault, unless memory was refused
abbrev pub Checks : Result (Unit {0}) ValueFault → Option (List ℕ × FieldType) → Type 0
Checks (Ok done) found = found ≡ None
Checks (Err fault) found = IsFault fault found
