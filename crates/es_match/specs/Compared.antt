-- Values compared with what a query asks for.
use Rattle.std.specs.Prelude.{List, Option, Some, None, Bool, true, false, ◌&&◌}
use Rattle.std.specs.Ordering.{is_lt, is_le, is_gt, is_ge}
use Rattle.std.specs.List.{list_any}
use Rattle.std.specs.Option.{option_map}
use Rattle.es_tree.specs.declared.tree.Tree.{Tree}
use Rattle.es_query.specs.declared.kinds.Bounds.{Bounds}
use Rattle.es_value.specs.declared.kinds.FieldType.{FieldType}
use Rattle.es_value.specs.declared.kinds.Value.{Value}
use Rattle.es_value.specs.Values.{typed}
use Rattle.es_value.specs.Order.{value_cmp, is_same}

-- above the bound, or at it where it isn't open; no bound bounds nothing
abbrev pub is_over : Bool → Option Value → Value → Bool
is_over is_open None v = true
is_over true (Some bound) v = is_lt (value_cmp bound v)
is_over false (Some bound) v = is_le (value_cmp bound v)

abbrev pub is_under : Bool → Option Value → Value → Bool
is_under is_open None v = true
is_under true (Some bound) v = is_gt (value_cmp bound v)
is_under false (Some bound) v = is_ge (value_cmp bound v)

-- one of the values is that of the scalar, which has to be of the type
abbrev pub has_value : Option Value → List Value → Bool
has_value None vs = false
has_value (Some w) vs = list_any (is_same w) vs

-- What a bound is in a field of the type: none is given, or the value of the scalar. A scalar that isn't of the type is no bound at all, and then no value is within.
abbrev pub bound_of : FieldType → Option Tree → Option (Option Value)
bound_of kind None = Some None
bound_of kind (Some t) = option_map Some (typed kind t)

-- one value is within both bounds
abbrev pub has_within : Bool → Option (Option Value) → Bool → Option (Option Value) → List Value → Bool
has_within low_open None high_open high vs = false
has_within low_open (Some low) high_open None vs = false
has_within low_open (Some low) high_open (Some high) vs = list_any (λ v. is_over low_open low v && is_under high_open high v) vs

abbrev pub has_in_range : FieldType → Bounds → List Value → Bool
has_in_range kind b vs = has_within b.low_open (bound_of kind b.low) b.high_open (bound_of kind b.high) vs
