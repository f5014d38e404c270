use Rattle.std.proofs.Common.{sym, ◌∙◌}
use Rattle.es_catalog.proofs.Places.{stands_there, fit_one, fit_none, fitting_all}
use Rattle.es_catalog.proofs.catalog.Catalog.fitting.Goals as goal
use Rattle.es_catalog.proofs.catalog.Catalog.fitting.Goals.{in-Some+then-matches+in_ok-of+in_ok-push, in-Some+else-matches, in_default}

pub loop-place-preserved : goal.loop-place-preserved
loop-place-preserved c = elim c.match-at.branch [
  | in-Some+then-matches+in_ok-of+in_ok-push w ↦
      fit_one c.self.inside.indices c.self.invariant c.args.self.now c.self.view_is c.args.pattern.now c.loop-place.place _ w.in-Some.ensures c.loop-place.names c.match-at.names _
      c.loop-place.invariant (w.names-is ∙ w.in_ok-push.ensures.ok) w.in_ok-of.ensures (sym w.matches.ensures.value ∙ w.if-matches.true)
  | in-Some+else-matches w ↦
      fit_none c.self.inside.indices c.self.invariant c.args.self.now c.self.view_is c.args.pattern.now c.loop-place.place _ w.in-Some.ensures c.match-at.names
      (w.names-is ∙ c.loop-place.invariant) (sym w.matches.ensures.value ∙ w.if-matches.false)
  | in_default w ↦ absurd (stands_there _ c.self.inside.indices c.loop-place.place c.len-place-end.result c.at.result c.at.ensures c.len-place-end.ensures.length c.loop-place-test.true w.in_default.not-Some)
]

pub returns : goal.returns
returns c =
    fitting_all c.self.inside.indices c.self.invariant c.args.self.now c.self.view_is c.args.pattern.now c.loop-place.names c.loop-place.place c.len-place-end.result c.loop-place.invariant c.len-place-end.ensures.length c.loop-place-test.false
