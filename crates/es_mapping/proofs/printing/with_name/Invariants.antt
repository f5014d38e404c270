use Rattle.std.proofs.Common.{◌≡◌, ◌+◌, map, drop}
use Rattle.es_mapping.specs.Printed.{left_at, run_of}
use Rattle.es_mapping.proofs.printing.with_name.Given as goal

-- the fields so far, and those at the front of what is left
abbrev pub invariant-loop-at : goal.invariant-loop-at
invariant-loop-at l = l.at + run_of l.name (map (left_at l.depth) (drop l.at l.fields)) ≡ run_of l.name (map (left_at l.depth) l.fields)
