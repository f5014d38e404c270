use Rattle.std.proofs.Common.{◌≡◌, take}
use Rattle.es_keys.proofs.kinds.are_same.Given as goal

-- what was compared is equal
abbrev pub invariant-loop-at : goal.invariant-loop-at
invariant-loop-at l = take l.at l.names ≡ take l.at l.others
