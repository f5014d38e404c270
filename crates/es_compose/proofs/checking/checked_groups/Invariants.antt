use Rattle.std.proofs.Common.{◌≡◌, length}
use Rattle.std.specs.Vec.Iter.{into_iter_items}
use Rattle.es_grammar.specs.Values.{items_of}
use Rattle.es_grammar.proofs.Fronts.{with_front}
use Rattle.es_compose.specs.Checked.{checked_group}
use Rattle.es_compose.proofs.checking.checked_groups.Given as goal

-- what was checked, with what is left, is the whole
abbrev pub invariant-loop-group : goal.invariant-loop-group
invariant-loop-group l = items_of checked_group 0 l.fn.groups ≡ with_front l.checked (items_of checked_group (length l.checked) (into_iter_items l.group-iterator))
