use Rattle.std.proofs.Common.{arith}
use Rattle.es_drill.proofs.Acting.{turn_some, turn_open, turn_next, none_done, idle_done, run_done, fewer}
use Rattle.es_drill.proofs.turning.+running.Goals as goal

pub step-requires-clause-open : goal.step-requires-clause-open
step-requires-clause-open t c = turn_open (turn_some c.requires.turn.3 c.in-Some.is)

pub run-requires : goal.run-requires
run-requires t c =
    let turn = turn_some c.requires.turn.3 c.in-Some.is in
    (fewer c.args.count t c.if-count-eq0.false (let most = c.decreases in omega (arith, most)), (c.requires.actor, (c.requires.turn.0, c.requires.turn.1, _, turn_next turn c.in_ok-left.ensures)))

pub returns-then-count-eq0 : goal.returns-then-count-eq0
returns-then-count-eq0 t c = λ secret limit S turn. none_done turn c.args.count c.if-count-eq0.true c.args.printed.now

pub returns-in_default : goal.returns-in_default
returns-in_default t c = λ secret limit S turn. idle_done (turn_some turn c.in_default.is) c.args.count c.args.printed.now

pub returns : goal.returns
returns t c = run_done c.args.count c.if-count-eq0.false _ _ _ _ _ _ _ _ _ _ c.run.result c.in-Some.is c.in_ok-left.ensures c.run.ensures
