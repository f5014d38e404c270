use Rattle.std.proofs.Common.{sym, ◌∙◌}
use Rattle.es_route.proofs.Clearing.{first_refused}
use Rattle.es_route.proofs.naming.bad_role_in.Goals as goal

pub returns-in-Some : goal.returns-in-Some
returns-in-Some c =
    first_refused c.args.names.now c.loop-name.name-index c.name-item.result c.text.result.now c.in-Some.refusal c.loop-name-test.true c.name-item.is c.text.ensures (sym c.in-Some.is ∙ c.in_ok-refusal.ensures) c.loop-name.invariant
