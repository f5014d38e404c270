use Rattle.es_records.proofs.Changed.{key_put}
use Rattle.es_records.proofs.records.Records.with_key.Goals as goal

pub invariant_of-result : goal.invariant_of-result
invariant_of-result c = (key_put c.self.inside.users c.self.inside.roles c.self.inside.keys c.self.invariant c.args.self.now c.self.view_is _ _ _ _ c.args.key (rw c.get.ensures at c.in_ok-id.ensures) c.in_ok-share.ensures c.in_ok-share-2.ensures c.in_ok-with.ensures).0

pub returns : goal.returns
returns c = (key_put c.self.inside.users c.self.inside.roles c.self.inside.keys c.self.invariant c.args.self.now c.self.view_is _ _ _ _ c.args.key (rw c.get.ensures at c.in_ok-id.ensures) c.in_ok-share.ensures c.in_ok-share-2.ensures c.in_ok-with.ensures).1
