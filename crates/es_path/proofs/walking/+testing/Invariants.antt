use Rattle.std.proofs.Common.{◌≡◌, ◌||◌, drop}
use Rattle.std.specs.List.{list_any, flat_map}
use Rattle.es_path.specs.Reached.{left_of, reached, reached_in}
use Rattle.es_path.proofs.walking.+testing.Given as goal

-- what was found, or is found in what is left, is found in the whole
abbrev pub invariant-any_in_items-loop-item : goal.invariant-any_in_items-loop-item
invariant-any_in_items-loop-item g l =
    (l.found || list_any (g.T.ScalarTest.holds_of l.test) (flat_map (reached (left_of l.left)) (drop l.item-index l.items)))
    ≡ list_any (g.T.ScalarTest.holds_of l.test) (flat_map (reached (left_of l.left)) l.items)

abbrev pub invariant-any_in_members-loop-member : goal.invariant-any_in_members-loop-member
invariant-any_in_members-loop-member g l =
    (l.found || list_any (g.T.ScalarTest.holds_of l.test) (flat_map (reached_in l.names) (drop l.member-index l.member-items)))
    ≡ list_any (g.T.ScalarTest.holds_of l.test) (flat_map (reached_in l.names) l.members)
