-- Null.
use Rattle.std.specs.Prelude.{Bool, true, false}
use Rattle.es_tree.specs.declared.tree.Tree.{Tree, out-Tree}
use Rattle.es_tree.specs.declared.tree.Tree.TheOpen.{Tree-F}

abbrev pub is_null_in : Tree-F Tree → Bool
is_null_in Tree-F.Null = true
is_null_in (Tree-F.Bool b) = false
is_null_in (Tree-F.Int z) = false
is_null_in (Tree-F.Text s) = false
is_null_in (Tree-F.List ts) = false
is_null_in (Tree-F.Object ms) = false

-- the tree is null
abbrev pub is_null : Tree → Bool
is_null t = is_null_in (out-Tree t)
