use Rattle.std.proofs.Common.{◌≡◌, ◌++◌, drop}
use Rattle.std.specs.List.{filter_map}
use Rattle.es_fields.specs.Projection.{left_of}
use Rattle.es_fields.specs.Trails.{grants_behind, left_in}
use Rattle.es_fields.proofs.projecting.+projecting.Given as goal

-- what is left so far, and what will be left of the others, is all that is left
abbrev pub invariant-items_left-loop-item : goal.invariant-items_left-loop-item
invariant-items_left-loop-item l =
    (l.left ++ filter_map (λ t. left_of t (grants_behind l.rule l.fn.trail)) (drop l.item-index l.items) ≡ filter_map (λ t. left_of t (grants_behind l.rule l.fn.trail)) l.items)
    × (l.trail ≡ l.fn.trail)

abbrev pub invariant-members_left-loop-member : goal.invariant-members_left-loop-member
invariant-members_left-loop-member l =
    (l.left ++ filter_map (left_in (grants_behind l.rule l.fn.trail)) (drop l.member-index l.member-items) ≡ filter_map (left_in (grants_behind l.rule l.fn.trail)) l.members)
    × (l.trail ≡ l.fn.trail)
