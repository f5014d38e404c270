use Rattle.std.proofs.Common.{◌≡◌, take}
use Rattle.es_base.proofs.seq.Seq.copy.Given as goal

-- as many items as the loop has passed
abbrev pub invariant-loop-item : goal.invariant-loop-item
invariant-loop-item g l = l.copies.items ≡ take l.item-index l.item-items
