use Rattle.std.proofs.Common.{◌≡◌, drop}
use Rattle.es_mapping.specs.Paths.{path_cmp}
use Rattle.es_mapping.proofs.paths.cmp_paths.Given as goal

-- what is left compares as the whole
abbrev pub invariant-loop-at : goal.invariant-loop-at
invariant-loop-at l = path_cmp (drop l.at l.one) (drop l.at l.other) ≡ path_cmp l.one l.other
