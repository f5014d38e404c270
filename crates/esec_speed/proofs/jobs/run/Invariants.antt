use Rattle.std.proofs.Common.{◌≡◌, true}
use Rattle.es_job.specs.Steps.{HoldsPast, steps_left}
use Rattle.esec_speed.proofs.jobs.run.Given as goal

-- the next step can be made, and what the call holds is past
abbrev pub invariant-loop-job : goal.invariant-loop-job
invariant-loop-job l = (l.job.ready ≡ true) × HoldsPast l.job.phase l.vault

abbrev pub decreases-loop-job : goal.decreases-loop-job
decreases-loop-job l = steps_left l.job.phase
