use Rattle.es_drive.proofs.Running.{alone_begun, alone_past, alone_more, alone_fewer, alone_left, alone_limit, alone_done, still_going, anyway}
use Rattle.es_drive.proofs.Noting.{noted_begun, noted_more, noted_done}
use Rattle.es_drive.proofs.alone.run_alone.Goals as goal

pub step_alone-requires-clause-open : goal.step_alone-requires-clause-open
step_alone-requires-clause-open c = still_going _ _ _ c.is_done.ensures c.loop-job-test.true c.next.ensures

pub step_alone-requires-clause-past : goal.step_alone-requires-clause-past
step_alone-requires-clause-past c = alone_past _ _ _ _ _ c.loop-job.invariant.0

pub loop-job-init : goal.loop-job-init
loop-job-init c = (alone_begun _ _ _ c.start-job.ensures, noted_begun _ _ _ c.start-job.ensures)

pub loop-job-preserved : goal.loop-job-preserved
loop-job-preserved c =
    let going = still_going _ _ _ c.is_done.ensures c.loop-job-test.true c.next.ensures in (
      alone_more _ _ _ _ _ c.loop-job.invariant.0 going _ _ c.in_ok-step_alone.ensures.ok,
      noted_more _ _ _ _ _ _ c.loop-job.invariant.0 c.loop-job.invariant.1 going _ _ c.in_ok-step_alone.ensures.ok,
    )

pub loop-job-smaller : goal.loop-job-smaller
loop-job-smaller c =
    alone_fewer _ _ _ _ _ c.loop-job.invariant.0 (still_going _ _ _ c.is_done.ensures c.loop-job-test.true c.next.ensures) _ _ c.in_ok-step_alone.ensures.ok

pub returns-in_err-step_alone-clause-err : goal.returns-in_err-step_alone-clause-err
returns-in_err-step_alone-clause-err c =
    anyway c.from_residual.result _ (alone_left _ _ _ _ _ c.loop-job.invariant.0 (still_going _ _ _ c.is_done.ensures c.loop-job-test.true c.next.ensures) _ c.in_err-step_alone.ensures.err)

pub returns-in_err-step_alone-clause-limit : goal.returns-in_err-step_alone-clause-limit
returns-in_err-step_alone-clause-limit c =
    alone_limit _ _ _ _ _ c.loop-job.invariant.0 (still_going _ _ _ c.is_done.ensures c.loop-job-test.true c.next.ensures) _ c.in_err-step_alone.ensures.err

pub returns-clause-ok : goal.returns-clause-ok
returns-clause-ok c = alone_done _ _ _ _ _ c.loop-job.invariant.0 _ _ _ c.finish.ensures.ended

pub returns-clause-limit : goal.returns-clause-limit
returns-clause-limit c = c.loop-job.invariant.0.limit_is

pub returns-clause-hits : goal.returns-clause-hits
returns-clause-hits c = noted_done _ _ _ _ _ _ c.loop-job.invariant.0 c.loop-job.invariant.1 _ _ _ _ c.finish.ensures.ended c.finish.ensures.hit
