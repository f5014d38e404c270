use Rattle.std.proofs.Common.{◌∙◌, sym, arith}
use Rattle.es_mapping.proofs.Narrowed.{compared_apart, compared_same, compared_ended}
use Rattle.es_mapping.proofs.paths.cmp_paths.Goals as goal

pub returns-then-one-at : goal.returns-then-one-at
returns-then-one-at c =
    c.cmp_bytes.ensures ∙ sym (compared_apart c.args.one.now c.args.other.now c.loop-at.at (omega arith) (omega arith) c.if-one-at.true) ∙ c.loop-at.invariant

pub loop-at-preserved : goal.loop-at-preserved
loop-at-preserved c = sym (compared_same c.args.one.now c.args.other.now c.loop-at.at (omega arith) (omega arith) c.if-one-at.false) ∙ c.loop-at.invariant

pub returns : goal.returns
returns c = c.cmp.ensures ∙ sym (compared_ended c.args.one.now c.args.other.now c.loop-at.at (omega arith)) ∙ c.loop-at.invariant
