use Rattle.std.proofs.lemmas.List.{take_min}
use Rattle.es_wire.proofs.LookLemmas.{limit_is}
use Rattle.es_wire.proofs.look.head_part.Goals as goal

pub returns : goal.returns
returns c = rw (c.min.ensures, limit_is) (take_min 16384 c.args.pending.now)
