use Rattle.std.proofs.Common.{sym, ◌∙◌}
use Rattle.es_keys.proofs.Names.{one_more, same_text}
use Rattle.es_keys.proofs.kinds.are_same.Goals as goal

pub loop-at-preserved : goal.loop-at-preserved
loop-at-preserved c =
    one_more c.args.names.now c.args.others.now c.loop-at.at c.index-names-at.result c.index-others-at.result c.loop-at-test.true c.if-names-others.false c.loop-at.invariant
    c.index-names-at.is c.index-others-at.is
    (sym c.text.ensures ∙ same_text c.text.result.now c.text-in-loop-at.result.now c.if-ne.ensures ∙ c.text-in-loop-at.ensures)
