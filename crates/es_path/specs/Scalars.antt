-- The scalars at a path.
use Rattle.std.specs.Prelude.{ℕ, List, map}
use Rattle.std.specs.List.{filter}
use Rattle.std.specs.Str.{bytes_eq}
use Rattle.es_tree.specs.declared.tree.Tree.{Tree}
use Rattle.es_tree.specs.Leaves.{leaves_of}

-- the scalars whose path has this text, in the tree's order
unfoldable pub scalars_at : List ℕ → Tree → List Tree
scalars_at path t = map (λ l. l.value) (filter (λ l. bytes_eq l.path path) (leaves_of t))
