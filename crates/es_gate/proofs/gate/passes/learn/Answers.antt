use Rattle.std.proofs.Common.{rules}
use Rattle.es_gate.specs.Turns.{LiesBeside}
use Rattle.es_gate.proofs.Moves.{learns}
use Rattle.es_gate.proofs.gate.passes.learn.Goals as goal

pub load-requires : goal.load-requires
load-requires g c = (search rules, search rules, learns (LiesBeside g.V.Stands.entries) _ _ _ c.args.seat.now.me c.requires.1)
