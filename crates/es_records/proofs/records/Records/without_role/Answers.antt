use Rattle.es_records.proofs.Changed.{role_gone}
use Rattle.es_records.proofs.records.Records.without_role.Goals as goal

pub invariant_of-result : goal.invariant_of-result
invariant_of-result c = (role_gone c.self.inside.users c.self.inside.roles c.self.inside.keys c.self.invariant c.args.self.now c.self.view_is _ _ _ c.args.name.now c.in_ok-share.ensures (rw c.text.ensures at c.in_ok-without.ensures) c.in_ok-share-2.ensures).0

pub returns : goal.returns
returns c = (role_gone c.self.inside.users c.self.inside.roles c.self.inside.keys c.self.invariant c.args.self.now c.self.view_is _ _ _ c.args.name.now c.in_ok-share.ensures (rw c.text.ensures at c.in_ok-without.ensures) c.in_ok-share-2.ensures).1
