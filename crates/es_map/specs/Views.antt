-- Lists of entries as maps from texts.
use Rattle.std.specs.Prelude.{ℕ, List}
use Rattle.std.specs.Coded.{Coded, coded_list, coded_ℕ}
use Rattle.std.specs.FinMap as map
use Rattle.std.specs.Ordering.{nat_cmp}
use Rattle.std.specs.Cmp.Lexicographic.{slice_cmp}
use Rattle.std.specs.declared.cmp.Ordering.{Ordering}

-- the order of texts, byte by byte
abbrev pub text_cmp : List ℕ → List ℕ → Ordering
text_cmp = slice_cmp nat_cmp

-- entries in the order of their keys, as a map
abbrev pub map_of : {X : Type 0} → List (List ℕ × X) → map.FinMap text_cmp X
map_of es = map.from_sorted es

-- how texts are stored
abbrev pub text_code : Coded (List ℕ)
text_code = coded_list coded_ℕ
