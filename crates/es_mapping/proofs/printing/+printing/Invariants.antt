use Rattle.std.proofs.Common.{◌≡◌, ◌++◌, ◌≤◌, ◌+◌, ◌*◌, ◌-◌, map, drop, length}
use Rattle.es_mapping.specs.Printed.{most_pieces, left_at, group_trees}
use Rattle.es_mapping.proofs.printing.+printing.Given as goal

abbrev pub decreases-add_group : goal.decreases-add_group
decreases-add_group l = 3 * (most_pieces - l.depth)

abbrev pub decreases-properties : goal.decreases-properties
decreases-properties l = 3 * (most_pieces - l.depth) + 1

abbrev pub decreases-field : goal.decreases-field
decreases-field l = 3 * (most_pieces - l.depth) + 2

-- the members so far, with those of the fields that are left, are all
abbrev pub invariant-properties-loop-from : goal.invariant-properties-loop-from
invariant-properties-loop-from l =
    (l.from ≤ length l.fields) × (l.members ++ group_trees (most_pieces - (l.depth + 1)) (map (left_at l.depth) (drop l.from l.fields)) ≡ group_trees (most_pieces - (l.depth + 1)) (map (left_at l.depth) l.fields))

abbrev pub decreases-properties-loop-from : goal.decreases-properties-loop-from
decreases-properties-loop-from l = length l.fields - l.from
