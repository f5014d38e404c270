-- The order of values.
use Rattle.std.specs.Prelude.{Bool}
use Rattle.std.specs.Ordering.{nat_cmp, int_cmp, is_eq}
use Rattle.std.specs.Cmp.Lexicographic.{slice_cmp}
use Rattle.std.specs.declared.cmp.Ordering.{Ordering}
use Rattle.std.specs.declared.cmp.Ordering.TheVariants.{Less, Greater}
use Rattle.es_value.specs.declared.kinds.Value.{Value}
use Rattle.es_value.specs.declared.kinds.Value.TheVariants.{Number, Text}

-- Numbers and moments compare as whole numbers, texts by their bytes, and numbers come before texts.
abbrev pub value_cmp : Value → Value → Ordering
value_cmp (Number y) (Number z) = int_cmp y z
value_cmp (Number y) (Text t) = Less
value_cmp (Text s) (Number z) = Greater
value_cmp (Text s) (Text t) = slice_cmp nat_cmp s t

abbrev pub is_same : Value → Value → Bool
is_same v w = is_eq (value_cmp v w)
