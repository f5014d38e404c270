-- The scalars of a tree, each with its path.
use Rattle.std.specs.Prelude.{ℕ, List, [], ◌∷◌, ◌++◌, map, Bool, true, false, codes}
use Rattle.std.specs.List.{flat_map}
use Rattle.es_tree.specs.declared.tree.Tree.{Tree}
use Rattle.es_tree.specs.declared.tree.Tree as tree
use Rattle.es_tree.specs.declared.tree.Tree.TheOpen.{Tree-F}
use Rattle.es_tree.specs.declared.tree.Tree.TheFolds.{fold-Tree}
use Rattle.es_tree.specs.declared.kinds.Leaf.{Leaf}

-- the names of members, from the outermost, and the scalar that they lead to
abbrev pub Path : Type 0
Path = List (List ℕ) × Tree

-- each path longer by the name
abbrev pub extended : List ℕ → List Path → List Path
extended name ps = map (λ p. (name ∷ p.0, p.1)) ps

-- A scalar, null too, gives itself at the empty path. A list gives the paths of its items. An object gives those of its members, in their order, each longer by the name.
abbrev pub paths_step : Tree-F (List Path) → List Path
paths_step Tree-F.Null = ([], tree.Null) ∷ []
paths_step (Tree-F.Bool b) = ([], tree.Bool b) ∷ []
paths_step (Tree-F.Int z) = ([], tree.Int z) ∷ []
paths_step (Tree-F.Text s) = ([], tree.Text s) ∷ []
paths_step (Tree-F.List pss) = flat_map (λ ps. ps) pss
paths_step (Tree-F.Object ms) = flat_map (λ m. extended m.name m.value) ms

unfoldable pub paths_of : Tree → List Path
paths_of = fold-Tree (List Path) paths_step

abbrev pub dotted_after : List ℕ → List (List ℕ) → List ℕ
dotted_after name [] = name
dotted_after name (next ∷ names) = name ++ (codes "." ++ dotted_after next names)

-- the names with a dot between each two
abbrev pub dotted : List (List ℕ) → List ℕ
dotted [] = []
dotted (name ∷ names) = dotted_after name names

-- each scalar with the text of its path
unfoldable pub leaves_of : Tree → List Leaf
leaves_of t = map (λ p. record { path = dotted p.0; value = p.1 }) (paths_of t)

-- the text of a path that is longer by a name; at the tree itself it is the name
abbrev pub longer : Bool → List ℕ → List ℕ → List ℕ
longer true path name = name
longer false path name = path ++ (codes "." ++ name)

-- ---- for private clauses

-- the text of a path that is longer by these names
abbrev pub under : Bool → List ℕ → List (List ℕ) → List ℕ
under is_top path [] = path
under is_top path (name ∷ names) = dotted_after (longer is_top path name) names

abbrev pub leaf_at : Bool → List ℕ → Path → Leaf
leaf_at is_top path p = record { path = under is_top path p.0; value = p.1 }
