use Rattle.std.proofs.Common.{◌≡◌, ◌++◌}
use Rattle.std.specs.Vec.Iter.{into_iter_items}
use Rattle.es_compose.proofs.role.compose.Given as goal

-- what was made ready, with what is left, is the whole
abbrev pub invariant-loop-descriptor : goal.invariant-loop-descriptor
invariant-loop-descriptor l = l.fn.descriptors ≡ l.parts ++ into_iter_items l.descriptor-iterator
