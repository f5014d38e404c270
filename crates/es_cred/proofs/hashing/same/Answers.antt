use Rattle.std.proofs.Common.{◌∙◌, ap, ◌==◌, arith}
use Rattle.es_cred.proofs.Differing.{none_gathered}
use Rattle.es_cred.proofs.hashing.same.Goals as goal

pub returns : goal.returns
returns c = ap (λ bits. bits == 0) c.differing.ensures ∙ none_gathered 0 c.args.one.now c.args.other.now (grind arith)
