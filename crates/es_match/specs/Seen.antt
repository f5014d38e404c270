-- What a query sees of a document.
use Rattle.std.specs.Prelude.{◌≡◌, ℕ, List, Option, Some}
use Rattle.std.specs.Option.{option_map}
use Rattle.es_tree.specs.declared.tree.Tree.{Tree}
use Rattle.es_tree.specs.declared.tree.Named.{Named}
use Rattle.es_tree.specs.Find.{value_named}
use Rattle.es_value.specs.declared.kinds.FieldType.{FieldType}
use Rattle.es_value.specs.declared.kinds.Value.{Value}
use Rattle.es_mapping.specs.Checking.{values_of}

-- of each field that is mapped its type, and its values
abbrev pub Seen : Type 0
Seen = List ℕ → Option (FieldType × List Value)

-- a document under a mapping
unfoldable pub seen_under : List (Named FieldType) → Tree → Seen
seen_under mapping document field = option_map (λ kind. (kind, values_of mapping document field)) (value_named field mapping)

-- each field of the part is one of the whole, of the same type
abbrev pub IsWithin : List (Named FieldType) → List (Named FieldType) → Type 0
IsWithin part whole = (field : List ℕ) (kind : FieldType) → value_named field part ≡ Some kind → value_named field whole ≡ Some kind
