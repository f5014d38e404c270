use Rattle.std.proofs.Common.{◌≡◌, ◌-◌, ◌≤◌, drop, map}
use Rattle.es_tree.specs.Rising.{name_of}
use Rattle.es_mapping.specs.Below.{neighbours_apart}
use Rattle.es_mapping.proofs.arranging.are_neighbours_apart.Given as goal

-- what is left decides
abbrev pub invariant-loop-at : goal.invariant-loop-at
invariant-loop-at l = (1 ≤ l.at) × (neighbours_apart (map name_of (drop (l.at - 1) l.fields)) ≡ neighbours_apart (map name_of l.fields))
