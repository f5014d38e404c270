use Rattle.std.proofs.Common.{◌≡◌, ◌++◌, map, drop}
use Rattle.std.specs.List.{flat_map}
use Rattle.es_tree.specs.Leaves.{paths_of, leaf_at, extended}
use Rattle.es_tree.proofs.walking.+gathering.Given as goal

-- what was found, with what is left, is the whole
abbrev pub invariant-add_items-loop-item : goal.invariant-add_items-loop-item
invariant-add_items-loop-item l =
    l.found ++ map (leaf_at l.is_top l.path) (flat_map paths_of (drop l.item-index l.items)) ≡ l.initial.found ++ map (leaf_at l.is_top l.path) (flat_map paths_of l.items)

abbrev pub invariant-add_members-loop-member : goal.invariant-add_members-loop-member
invariant-add_members-loop-member l =
    l.found ++ map (leaf_at l.is_top l.path) (flat_map (λ m. extended m.name (paths_of m.value)) (drop l.member-index l.member-items))
    ≡ l.initial.found ++ map (leaf_at l.is_top l.path) (flat_map (λ m. extended m.name (paths_of m.value)) l.members)
