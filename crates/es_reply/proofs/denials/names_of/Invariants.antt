use Rattle.std.proofs.Common.{◌≡◌, ◌++◌, map, drop}
use Rattle.es_tree.specs.Text.{with_commas, after_commas}
use Rattle.es_reply.proofs.denials.names_of.Given as goal

-- what is written, with the names that are left behind commas, is the whole
abbrev pub invariant-loop-privilege : goal.invariant-loop-privilege
invariant-loop-privilege g l = l.names ++ after_commas (map g.P.Named.name_of (drop l.privilege-index l.others)) ≡ with_commas (map g.P.Named.name_of l.privileges)
