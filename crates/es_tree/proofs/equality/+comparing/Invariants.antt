use Rattle.std.proofs.Common.{◌≡◌, take}
use Rattle.es_tree.proofs.equality.+comparing.Given as goal

-- what was compared is equal
abbrev pub invariant-are_equal_items-loop-at : goal.invariant-are_equal_items-loop-at
invariant-are_equal_items-loop-at l = take l.at l.items ≡ take l.at l.others

abbrev pub invariant-are_equal_members-loop-at : goal.invariant-are_equal_members-loop-at
invariant-are_equal_members-loop-at l = take l.at l.members ≡ take l.at l.others
