-- Typed values of scalars.
use Rattle.std.specs.Prelude.{ℕ, ℤ, List, Option, Some, None, codes, if◌then◌else◌}
use Rattle.std.specs.Fmt.{signed_decimal}
use Rattle.std.specs.Option.{option_map}
use Rattle.es_tree.specs.declared.tree.Tree.{Tree, out-Tree}
use Rattle.es_tree.specs.declared.tree.Tree.TheOpen.{Tree-F}
use Rattle.es_tree.specs.declared.tree.Tree as tree
use Rattle.es_value.specs.declared.kinds.FieldType.{FieldType}
use Rattle.es_value.specs.declared.kinds.FieldType.TheVariants.{Keyword, Long, Date}
use Rattle.es_value.specs.declared.kinds.Value.{Value}
use Rattle.es_value.specs.declared.kinds.Value.TheVariants as value
use Rattle.es_value.specs.Numbers.{number_of}
use Rattle.es_value.specs.Dates.{date_of}

abbrev pub keyword_in : Tree-F Tree → Option (List ℕ)
keyword_in Tree-F.Null = None
keyword_in (Tree-F.Bool b) = Some (if b then codes "true" else codes "false")
keyword_in (Tree-F.Int z) = Some (signed_decimal z)
keyword_in (Tree-F.Text s) = Some s
keyword_in (Tree-F.List ts) = None
keyword_in (Tree-F.Object ms) = None

abbrev pub whole_in : (List ℕ → Option ℤ) → Tree-F Tree → Option ℤ
whole_in read Tree-F.Null = None
whole_in read (Tree-F.Bool b) = None
whole_in read (Tree-F.Int z) = Some z
whole_in read (Tree-F.Text s) = read s
whole_in read (Tree-F.List ts) = None
whole_in read (Tree-F.Object ms) = None

-- A keyword is a text, a whole number as its decimal text, or a truth value as `true` or `false`.
abbrev pub keyword_of : Tree → Option (List ℕ)
keyword_of t = keyword_in (out-Tree t)

-- the whole number that a scalar is in a field of this type: one, or a text that `number_of` or `date_of` reads
abbrev pub whole_of : FieldType → Tree → Option ℤ
whole_of Keyword t = None
whole_of Long t = whole_in number_of (out-Tree t)
whole_of Date t = whole_in date_of (out-Tree t)

-- the value of a scalar in a field of this type, if it is of that type; null is of none
abbrev pub typed : FieldType → Tree → Option Value
typed Keyword t = option_map value.Text (keyword_of t)
typed Long t = option_map value.Number (whole_of Long t)
typed Date t = option_map value.Number (whole_of Date t)

-- the tree that a value prints as: the text of a keyword, a number, or the milliseconds of a moment
abbrev pub value_tree : Value → Tree
value_tree (value.Number z) = tree.Int z
value_tree (value.Text s) = tree.Text s
