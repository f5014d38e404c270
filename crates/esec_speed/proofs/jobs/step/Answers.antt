use Rattle.esec_speed.proofs.Undisturbed.{worked_past, worked_fewer}
use Rattle.esec_speed.proofs.jobs.step.Goals as goal

pub returns-clause-past : goal.returns-clause-past
returns-clause-past c = worked_past _ _ _ _ _ _ c.in_ok-step.ensures.ok c.in_ok-work.ensures.ok c.requires.past

pub returns-clause-fewer : goal.returns-clause-fewer
returns-clause-fewer c = worked_fewer _ _ _ _ _ _ c.in_ok-step.ensures.ok c.in_ok-work.ensures.ok c.requires.open
