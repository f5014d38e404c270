use Rattle.std.proofs.Common.{◌≡◌, drop}
use Rattle.std.specs.List.{flat_map}
use Rattle.es_tree.specs.Leaves.{paths_of, extended}
use Rattle.es_mapping.specs.Possible.{rest_of, first_along}
use Rattle.es_mapping.proofs.checking.+checking.Given as goal

-- what is left has the first fault
abbrev pub invariant-check_items-loop-item : goal.invariant-check_items-loop-item
invariant-check_items-loop-item l = first_along (rest_of l.possible) (flat_map paths_of (drop l.item-index l.items)) ≡ first_along (rest_of l.possible) (flat_map paths_of l.items)

abbrev pub invariant-check_members-loop-member : goal.invariant-check_members-loop-member
invariant-check_members-loop-member l =
    first_along (rest_of l.possible) (flat_map (λ m. extended m.name (paths_of m.value)) (drop l.member-index l.member-items))
    ≡ first_along (rest_of l.possible) (flat_map (λ m. extended m.name (paths_of m.value)) l.members)
