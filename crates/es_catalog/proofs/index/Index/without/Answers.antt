use Rattle.es_catalog.proofs.Written.{remove_sound, remove_is}
use Rattle.es_catalog.proofs.index.Index.without.Goals as goal

pub invariant_of-result : goal.invariant_of-result
invariant_of-result c = remove_sound c.self.inside.incarnation c.self.inside.mapping c.self.inside.documents c.self.invariant c.args.id.now _ _ c.in_ok-share.ensures c.in_ok-without.ensures

pub returns : goal.returns
returns c =
    rw (← c.self.view_is) (remove_is c.self.inside.incarnation c.self.inside.mapping c.self.inside.documents c.self.invariant c.args.id.now _ _ c.in_ok-share.ensures c.in_ok-without.ensures)
