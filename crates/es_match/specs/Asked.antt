-- What a query asks of the values of one field, for private clauses.
use Rattle.std.specs.Prelude.{Option, Some, None, Bool, true, false, ◌&&◌}
use Rattle.std.specs.List.{list_any}
use Rattle.es_tree.specs.declared.tree.Tree.{Tree}
use Rattle.es_value.specs.declared.kinds.FieldType.{FieldType}
use Rattle.es_value.specs.declared.kinds.Value.{Value}
use Rattle.es_value.specs.Values.{typed}
use Rattle.es_match.specs.declared.asking.Asked.{Asked}
use Rattle.es_match.specs.declared.asking.Asked.TheVariants.{OneOf, Within, Any}
use Rattle.es_value.specs.Order.{is_same}
use Rattle.es_match.specs.Compared.{is_over, is_under}

-- the value is one that is asked for
abbrev pub meets : Asked → Value → Bool
meets (OneOf ws) v = list_any (λ w. is_same w v) ws
meets (Within limits) v = is_over limits.low_open limits.low v && is_under limits.high_open limits.high v
meets Any v = true

abbrev pub meets_if : Asked → Option Value → Bool
meets_if asked None = false
meets_if asked (Some v) = meets asked v

-- the scalar has a value in a field of the type, which is one that is asked for
unfoldable pub asks_of : FieldType → Asked → Tree → Bool
asks_of kind asked t = meets_if asked (typed kind t)
