use Rattle.std.proofs.Common.{sym, ◌∙◌}
use Rattle.es_drive.proofs.Journals.{drawn_is, undrawn_is, nothing_drawn, made_drawn, made_undrawn, one_drawn}
use Rattle.es_drive.proofs.run.drawn_call.Goals as goal

pub returns-then-draws-clause-made : goal.returns-then-draws-clause-made
returns-then-draws-clause-made g c =
    made_drawn c.args.raw.now c.args.moment _ c.in_ok-call.ensures.call c.requires c.in_ok-call.ensures.timely _ (sym c.draws.ensures ∙ c.if-draws.true) c.draw-draw.ensures.drawn

pub returns-then-draws-clause-call : goal.returns-then-draws-clause-call
returns-then-draws-clause-call g c = drawn_is c.args.raw.now c.args.moment _ c.in_ok-call.ensures.call _

pub returns-then-draws-clause-drew : goal.returns-then-draws-clause-drew
returns-then-draws-clause-drew g c = one_drawn _ _ _ c.draw-draw.ensures.drawn c.draw-draw.ensures.draws

pub returns-clause-made : goal.returns-clause-made
returns-clause-made g c = made_undrawn c.args.raw.now c.args.moment _ c.in_ok-call.ensures.call c.requires c.in_ok-call.ensures.timely (sym c.draws.ensures ∙ c.if-draws.false)

pub returns-clause-call : goal.returns-clause-call
returns-clause-call g c = undrawn_is c.args.raw.now c.args.moment _ c.in_ok-call.ensures.call

pub returns-clause-drew : goal.returns-clause-drew
returns-clause-drew g c = nothing_drawn c.args.raw.now c.args.moment _ c.in_ok-call.ensures.call _
