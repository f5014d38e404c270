use Rattle.std.proofs.Common.{rules}
use Rattle.es_gate.specs.Turns.{LiesBeside}
use Rattle.es_gate.proofs.Moves.{joins}
use Rattle.es_gate.proofs.gate.Gate.join.Goals as goal

pub join_seat-requires : goal.join_seat-requires
join_seat-requires g c = (
  search rules,
  search rules,
  search rules,
  search rules,
  joins (LiesBeside g.V.Stands.entries) _ 0 _ c.args.pass.now.seat.me _ c.args.other.seat.me.0 c.requires.pass.0.1 c.requires.other.0.1,
)
