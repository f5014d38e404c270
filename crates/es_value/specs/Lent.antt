-- Lent values.
use Rattle.es_value.specs.declared.kinds.Value.{Value}
use Rattle.es_value.specs.declared.kinds.Value.TheVariants as value
use Rattle.es_value.specs.declared.kinds.Lent.{Lent}
use Rattle.es_value.specs.declared.kinds.Lent.TheVariants.{Number, Text}

-- the value that is lent
abbrev pub value_of : Lent → Value
value_of (Number z) = value.Number z
value_of (Text s) = value.Text s.now
