use Rattle.es_job.specs.Steps.{steps_left}
use Rattle.es_drive.specs.Alone.{RunsAlone}
use Rattle.es_drive.proofs.Noting.{Noted}
use Rattle.es_drive.proofs.alone.run_alone.Given as goal

-- it runs alone, and its hit was noted
abbrev pub invariant-loop-job : goal.invariant-loop-job
invariant-loop-job l = RunsAlone l.fn.vault.limit l.fn.vault.at l.fn.call l.vault l.job × Noted l.fn.vault l.fn.call l.vault l.job

abbrev pub decreases-loop-job : goal.decreases-loop-job
decreases-loop-job l = steps_left l.job.phase
