use Rattle.es_drill.proofs.Acting.{turn_step, turn_run, turn_call, step_line, run_line, call_line}
use Rattle.es_drill.proofs.turning.do_line.Goals as goal

pub make-requires-clause-turn : goal.make-requires-clause-turn
make-requires-clause-turn c = (c.requires.turn.0, c.requires.turn.1, c.requires.turn.2, turn_step 0 c.args.line c.requires.turn.3 _ c.in-Step.is)

pub make-requires-in-Run-clause-turn : goal.make-requires-in-Run-clause-turn
make-requires-in-Run-clause-turn c = (c.requires.turn.0, c.requires.turn.1, c.requires.turn.2, turn_run 0 c.args.line c.requires.turn.3 _ c.in-Run.is)

pub returns-in-Step : goal.returns-in-Step
returns-in-Step c = record { done = λ secret limit S turn. step_line c.args.number c.args.line turn _ _ _ c.make.result _ c.in-Step.is (c.make.ensures.done secret limit S (turn_step 0 c.args.line turn _ c.in-Step.is)) }

pub returns-in-Run : goal.returns-in-Run
returns-in-Run c = record { done = λ secret limit S turn. run_line c.args.number c.args.line turn _ _ _ c.make-in-Run.result _ c.in-Run.is (c.make-in-Run.ensures.done secret limit S (turn_run 0 c.args.line turn _ c.in-Run.is)) }

pub returns-in-Call : goal.returns-in-Call
returns-in-Call c = record { done = λ secret limit S turn. call_line c.args.number c.args.line turn _ c.start.result _ _ c.in-Call.is (c.start.ensures.started S _ (turn_call 0 c.args.line turn _ _ c.in-Call.is).job_is) }
