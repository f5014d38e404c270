-- Trees that are printed.
use Rattle.std.specs.Prelude.{ℕ, List, [], ◌∷◌, map, Option, Some, None}
use Rattle.es_tree.specs.declared.tree.Tree.{Tree}
use Rattle.es_tree.specs.declared.tree.Tree as tree
use Rattle.es_tree.specs.declared.tree.Named.{Named}

-- the list of the items' trees
abbrev pub list_tree : {A : Type 0} → (A → Tree) → List A → Tree
list_tree print xs = tree.List (map print xs)

-- a member of an object
abbrev pub member_tree : List ℕ → Tree → Named Tree
member_tree name t = record { name = name; value = t }

abbrev pub named_tree : {A : Type 0} → (A → Tree) → Named A → Named Tree
named_tree print m = record { name = m.name; value = print m.value }

-- the object of the named values' trees
abbrev pub map_tree : {A : Type 0} → (A → Tree) → List (Named A) → Tree
map_tree print ms = tree.Object (map (named_tree print) ms)

-- an object of one member
abbrev pub single : List ℕ → Tree → Tree
single name t = tree.Object (member_tree name t ∷ [])

-- null where there is no value
abbrev pub nullable_tree : {A : Type 0} → (A → Tree) → Option A → Tree
nullable_tree print None = tree.Null
nullable_tree print (Some x) = print x
