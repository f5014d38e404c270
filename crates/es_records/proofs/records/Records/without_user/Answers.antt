use Rattle.es_records.proofs.Changed.{user_gone}
use Rattle.es_records.proofs.records.Records.without_user.Goals as goal

pub invariant_of-result : goal.invariant_of-result
invariant_of-result c = (user_gone c.self.inside.users c.self.inside.roles c.self.inside.keys c.self.invariant c.args.self.now c.self.view_is _ _ _ c.args.name.now (rw c.text.ensures at c.in_ok-without.ensures) c.in_ok-share.ensures c.in_ok-share-2.ensures).0

pub returns : goal.returns
returns c = (user_gone c.self.inside.users c.self.inside.roles c.self.inside.keys c.self.invariant c.args.self.now c.self.view_is _ _ _ c.args.name.now (rw c.text.ensures at c.in_ok-without.ensures) c.in_ok-share.ensures c.in_ok-share-2.ensures).1
