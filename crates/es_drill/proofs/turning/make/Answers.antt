use Rattle.es_drill.proofs.Acting.{turn_some, steps_done, idle_refused}
use Rattle.es_drill.proofs.turning.make.Goals as goal

pub run-requires-clause-turn : goal.run-requires-clause-turn
run-requires-clause-turn c = (c.requires.turn.0, c.requires.turn.1, c.requires.turn.2, turn_some c.requires.turn.3 c.in-Some.is)

pub returns-in_default : goal.returns-in_default
returns-in_default c = record { done = λ secret limit S turn. idle_refused (turn_some turn c.in_default.is) c.args.count c.args.vault.now c.args.printed.now }

pub returns : goal.returns
returns c = record { done = λ secret limit S turn. let now = turn_some turn c.in-Some.is in steps_done now c.args.count _ _ _ _ (c.in_ok-run.ensures secret limit S now) }
