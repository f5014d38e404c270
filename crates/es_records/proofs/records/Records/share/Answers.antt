use Rattle.es_records.proofs.Changed.{shared}
use Rattle.es_records.proofs.records.Records.share.Goals as goal

pub invariant_of-result : goal.invariant_of-result
invariant_of-result c = (shared c.self.inside.users c.self.inside.roles c.self.inside.keys c.self.invariant c.args.self.now c.self.view_is _ _ _ c.in_ok-share.ensures c.in_ok-share-2.ensures c.in_ok-share-3.ensures).0

pub returns : goal.returns
returns c = (shared c.self.inside.users c.self.inside.roles c.self.inside.keys c.self.invariant c.args.self.now c.self.view_is _ _ _ c.in_ok-share.ensures c.in_ok-share-2.ensures c.in_ok-share-3.ensures).1
