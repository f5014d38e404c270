use Rattle.std.proofs.Common.{◌∙◌}
use Rattle.es_records.proofs.Changed.{opened}
use Rattle.es_records.proofs.records.Records.opening.Goals as goal

pub invariant_of-result : goal.invariant_of-result
invariant_of-result c = (opened c.args.secret.now _ _ _ _ _ _ _ _ _ c.empty.ensures c.empty-2.ensures c.empty-3.ensures c.in_ok-of-2.ensures c.in_ok-of-3.ensures (c.in_ok-user.ensures ∙ c.in_ok-opening_user.ensures) (c.in_ok-role.ensures ∙ c.in_ok-of.ensures ∙ c.in_ok-opening_role.ensures) c.in_ok-with.ensures c.in_ok-with-2.ensures).0

pub returns : goal.returns
returns c = (opened c.args.secret.now _ _ _ _ _ _ _ _ _ c.empty.ensures c.empty-2.ensures c.empty-3.ensures c.in_ok-of-2.ensures c.in_ok-of-3.ensures (c.in_ok-user.ensures ∙ c.in_ok-opening_user.ensures) (c.in_ok-role.ensures ∙ c.in_ok-of.ensures ∙ c.in_ok-opening_role.ensures) c.in_ok-with.ensures c.in_ok-with-2.ensures).1
