use Rattle.std.proofs.Common.{sym, ◌∙◌}
use Rattle.es_drill.specs.Keeping.{texts_as}
use Rattle.es_drill.proofs.Cutting.{drawn_call, undrawn_call, drawn_made, undrawn_made}
use Rattle.es_drill.proofs.lines.call_at.Goals as goal

pub returns-then-draws-clause-call : goal.returns-then-draws-clause-call
returns-then-draws-clause-call c = drawn_call c.args.number (texts_as c.args.texts) c.in_ok-raw.raw c.in_ok-call.call c.in_ok-raw.ensures c.in_ok-call.ensures.call (sym c.draws.ensures ∙ c.if-draws.true)

pub returns-then-draws-clause-made : goal.returns-then-draws-clause-made
returns-then-draws-clause-made c = drawn_made c.args.number (texts_as c.args.texts) c.in_ok-raw.raw c.in_ok-call.call c.in_ok-raw.ensures c.in_ok-call.ensures.call c.requires c.in_ok-call.ensures.timely (sym c.draws.ensures ∙ c.if-draws.true)

pub returns-clause-call : goal.returns-clause-call
returns-clause-call c = undrawn_call c.args.number (texts_as c.args.texts) c.in_ok-raw.raw c.in_ok-call.call c.in_ok-raw.ensures c.in_ok-call.ensures.call (sym c.draws.ensures ∙ c.if-draws.false)

pub returns-clause-made : goal.returns-clause-made
returns-clause-made c = undrawn_made c.args.number (texts_as c.args.texts) c.in_ok-raw.raw c.in_ok-call.call c.in_ok-raw.ensures c.in_ok-call.ensures.call c.requires c.in_ok-call.ensures.timely (sym c.draws.ensures ∙ c.if-draws.false)
