use Rattle.std.proofs.Common.{rules}
use Rattle.es_gate.specs.Turns.{LiesBeside}
use Rattle.es_gate.proofs.Moves.{splits}
use Rattle.es_gate.proofs.gate.Gate.split.Goals as goal

pub split_seat-seat-requires : goal.split_seat-seat-requires
split_seat-seat-requires g c = (search rules, search rules, splits (LiesBeside g.V.Stands.entries) _ 0 _ c.args.pass.now.seat.me c.requires.pass.0.1)
