-- Texts among scalars, for tests of this crate.
use Rattle.std.specs.Prelude.{ℕ, List, length, Bool, false, Option, Some, None, nat_lt}
use Rattle.es_tree.specs.declared.tree.Tree.{Tree, out-Tree}
use Rattle.es_tree.specs.declared.tree.Tree.TheOpen.{Tree-F}

abbrev pub text_in : Tree-F Tree → Option (List ℕ)
text_in Tree-F.Null = None
text_in (Tree-F.Bool b) = None
text_in (Tree-F.Int z) = None
text_in (Tree-F.Text s) = Some s
text_in (Tree-F.List ts) = None
text_in (Tree-F.Object ms) = None

-- the text that a tree is
abbrev pub text_at : Tree → Option (List ℕ)
text_at t = text_in (out-Tree t)

abbrev pub is_long : Option (List ℕ) → Bool
is_long None = false
is_long (Some s) = nat_lt 1 (length s)

-- a text of more than one byte
abbrev pub is_long_text : Tree → Bool
is_long_text t = is_long (text_at t)
