use Rattle.es_catalog.proofs.Places.{stands_there, stands_here, stands_not_here, stands_none}
use Rattle.es_catalog.proofs.catalog.Catalog.stands.Goals as goal
use Rattle.es_catalog.proofs.catalog.Catalog.stands.Goals.{in-Some+else-incarnation, in_default}

pub returns-then-incarnation : goal.returns-then-incarnation
returns-then-incarnation c =
    stands_here c.self.inside.indices c.self.invariant c.args.self.now c.self.view_is c.args.incarnation c.loop-place.place _ c.in-Some.ensures c.incarnation.result c.incarnation.ensures c.if-incarnation.true

pub loop-place-preserved : goal.loop-place-preserved
loop-place-preserved c = elim c.match-at.branch [
  | in-Some+else-incarnation w ↦ stands_not_here c.self.inside.indices c.self.invariant c.args.self.now c.self.view_is c.args.incarnation c.loop-place.place _ w.in-Some.ensures w.incarnation.result w.incarnation.ensures w.if-incarnation.false c.loop-place.invariant
  | in_default w ↦ absurd (stands_there _ c.self.inside.indices c.loop-place.place c.len-place-end.result c.at.result c.at.ensures c.len-place-end.ensures.length c.loop-place-test.true w.in_default.not-Some)
]

pub returns : goal.returns
returns c = stands_none c.self.inside.indices c.self.invariant c.args.self.now c.self.view_is c.args.incarnation c.loop-place.place c.len-place-end.result c.loop-place.invariant c.len-place-end.ensures.length c.loop-place-test.false
