use Rattle.std.proofs.Common.{◌≡◌, drop}
use Rattle.es_template.specs.Filling.{value_at}
use Rattle.es_template.proofs.filling.value_at.Given as goal

-- the names that are left lead from what was found to where all lead from the whole
abbrev pub invariant-loop-name : goal.invariant-loop-name
invariant-loop-name l = value_at (drop l.name-index l.path) l.found ≡ value_at l.path l.fn.tree
