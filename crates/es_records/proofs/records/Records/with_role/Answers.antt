use Rattle.es_records.proofs.Changed.{role_put}
use Rattle.es_records.proofs.records.Records.with_role.Goals as goal

pub invariant_of-result : goal.invariant_of-result
invariant_of-result c = (role_put c.self.inside.users c.self.inside.roles c.self.inside.keys c.self.invariant c.args.self.now c.self.view_is _ _ _ c.args.name.now _ c.args.role.now _ c.in_ok-share.ensures c.in_ok-copy.ensures c.in_ok-share-2.ensures c.in_ok-with.ensures c.in_ok-share-3.ensures).0

pub returns : goal.returns
returns c = (role_put c.self.inside.users c.self.inside.roles c.self.inside.keys c.self.invariant c.args.self.now c.self.view_is _ _ _ c.args.name.now _ c.args.role.now _ c.in_ok-share.ensures c.in_ok-copy.ensures c.in_ok-share-2.ensures c.in_ok-with.ensures c.in_ok-share-3.ensures).1
