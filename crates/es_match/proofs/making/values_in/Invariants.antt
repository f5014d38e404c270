use Rattle.std.proofs.Common.{◌≡◌, ◌++◌, drop}
use Rattle.std.specs.List.{filter_map}
use Rattle.es_value.specs.Values.{typed}
use Rattle.es_match.proofs.making.values_in.Given as goal

-- the values so far, and those of the scalars that are left, are all
abbrev pub invariant-loop-scalar : goal.invariant-loop-scalar
invariant-loop-scalar l = l.values ++ filter_map (typed l.kind) (drop l.scalar-index l.scalars) ≡ filter_map (typed l.kind) l.scalars
