-- A value by its name.
use Rattle.std.specs.Prelude.{ℕ, List, [], ◌∷◌, Option, Some, None, if◌then◌else◌}
use Rattle.std.specs.Str.{bytes_eq}
use Rattle.es_tree.specs.declared.tree.Tree.{Tree, out-Tree}
use Rattle.es_tree.specs.declared.tree.Tree.TheOpen.{Tree-F}
use Rattle.es_tree.specs.declared.tree.Named.{Named}

-- the first value of this name
abbrev pub value_named : {V : Type 0} → List ℕ → List (Named V) → Option V
value_named name [] = None
value_named name (m ∷ ms) = if bytes_eq m.name name then Some m.value else value_named name ms

abbrev pub member_in : List ℕ → Tree-F Tree → Option Tree
member_in name Tree-F.Null = None
member_in name (Tree-F.Bool b) = None
member_in name (Tree-F.Int z) = None
member_in name (Tree-F.Text s) = None
member_in name (Tree-F.List ts) = None
member_in name (Tree-F.Object ms) = value_named name ms

-- the value of an object's member of this name; no other tree has members
abbrev pub member_of : List ℕ → Tree → Option Tree
member_of name t = member_in name (out-Tree t)
