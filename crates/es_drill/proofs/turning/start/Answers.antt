use Rattle.es_drill.proofs.Acting.{busy_refused, started_job}
use Rattle.es_drill.proofs.turning.start.Goals as goal

pub start-requires : goal.start-requires
start-requires c = c.in_ok-call.ensures.made

pub returns-in-Some : goal.returns-in-Some
returns-in-Some c = record { started = λ S actor has. busy_refused S _ actor _ _ _ c.in-Some.is has }

pub returns : goal.returns
returns c = record { started = λ S actor has. started_job S _ actor _ _ _ _ c.in_default.is has c.in_ok-call.ensures.call c.start.ensures }
