-- What the nodes of a walk have still to come.
use Rattle.std.specs.Prelude.{◌≡◌, ℕ, List, [], ◌∷◌, ◌++◌}
use Rattle.std.specs.Borrow.{Bor}
use Rattle.es_map.specs.declared.map.Node.{Node}
use Rattle.es_map.specs.Entries.{pair_of}

-- the entries of these nodes and those on their right, from the last node to the first
abbrev pub entries_waiting : {V : Type 0} → List (Bor (Node V)) → List (List ℕ × V)
entries_waiting [] = []
entries_waiting (node ∷ nearer) = entries_waiting nearer ++ pair_of node.now.entry ∷ node.now.right

-- nodes were added at the end, for which these entries wait
pub record Adds {V : Type 0} (old new : List (Bor (Node V))) (entries : List (List ℕ × V)) : Type 0 where
  pub added : List (Bor (Node V))
  pub is : new ≡ old ++ added
  pub entries_are : entries_waiting added ≡ entries
