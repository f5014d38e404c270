use Rattle.std.proofs.Common.{◌∙◌, sym, arith}
use Rattle.es_cred.proofs.Differing.{gathers}
use Rattle.es_cred.proofs.hashing.differing.Goals as goal

pub loop-at-preserved : goal.loop-at-preserved
loop-at-preserved c = sym (gathers c.loop-at.bits c.loop-at.at c.args.one.now c.args.other.now (grind arith) (grind arith)) ∙ c.loop-at.invariant
