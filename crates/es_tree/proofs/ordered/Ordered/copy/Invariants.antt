use Rattle.std.proofs.Common.{◌≡◌, take}
use Rattle.es_tree.proofs.ordered.Ordered.copy.Given as goal

-- as many named values as the loop has passed
abbrev pub invariant-loop-item : goal.invariant-loop-item
invariant-loop-item g l = l.copies.items ≡ take l.item-index l.item-items
