use Rattle.std.proofs.Common.{◌≡◌, drop}
use Rattle.es_route.specs.Refusals.{bad_role_in}
use Rattle.es_route.proofs.naming.bad_role_in.Given as goal

abbrev pub invariant-loop-name : goal.invariant-loop-name
invariant-loop-name l = bad_role_in (drop l.name-index l.names) ≡ bad_role_in l.names
