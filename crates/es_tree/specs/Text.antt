-- The text of a tree: compact JSON (RFC 8259), with no white space.
use Rattle.std.specs.Prelude.{ℕ, List, [], ◌∷◌, ◌++◌, map, true, false, codes}
use Rattle.std.specs.Fmt.{signed_decimal}
use Rattle.json.specs.Print.{quoted}
use Rattle.es_tree.specs.declared.tree.Tree.{Tree}
use Rattle.es_tree.specs.declared.tree.Tree.TheOpen.{Tree-F}
use Rattle.es_tree.specs.declared.tree.Tree.TheFolds.{fold-Tree}
use Rattle.es_tree.specs.declared.tree.Named.{Named}

-- each text behind a comma
abbrev pub after_commas : List (List ℕ) → List ℕ
after_commas [] = []
after_commas (t ∷ ts) = codes "," ++ (t ++ after_commas ts)

-- the texts with a comma between each two
abbrev pub with_commas : List (List ℕ) → List ℕ
with_commas [] = []
with_commas (t ∷ ts) = t ++ after_commas ts

-- a name in quotes, a colon, and the text of its value
abbrev pub named_text : Named (List ℕ) → List ℕ
named_text m = quoted m.name ++ (codes ":" ++ m.value)

-- one level, with the text of each tree inside in its place
abbrev pub text_step : Tree-F (List ℕ) → List ℕ
text_step Tree-F.Null = codes "null"
text_step (Tree-F.Bool true) = codes "true"
text_step (Tree-F.Bool false) = codes "false"
text_step (Tree-F.Int z) = signed_decimal z
text_step (Tree-F.Text s) = quoted s
text_step (Tree-F.List ts) = codes "[" ++ (with_commas ts ++ codes "]")
text_step (Tree-F.Object ms) = codes "{" ++ (with_commas (map named_text ms) ++ codes "}")

unfoldable pub text_of : Tree → List ℕ
text_of = fold-Tree (List ℕ) text_step

-- the text of a member
abbrev pub member_text : Named Tree → List ℕ
member_text m = named_text (record { name = m.name; value = text_of m.value })
