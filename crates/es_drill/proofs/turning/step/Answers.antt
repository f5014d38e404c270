use Rattle.es_job.specs.Steps.{step_of}
use Rattle.es_drill.specs.Keeping.{asked_by}
use Rattle.es_drill.proofs.Stepping.{step_done}
use Rattle.es_drill.proofs.turning.step.Goals as goal

pub step_job-requires : goal.step_job-requires
step_job-requires c = c.requires.open

pub print_note-requires : goal.print_note-requires
print_note-requires c = c.requires.actor

pub left_of-requires-clause-actor : goal.left_of-requires-clause-actor
left_of-requires-clause-actor c = c.requires.actor

pub left_of-requires-clause-ready : goal.left_of-requires-clause-ready
left_of-requires-clause-ready c = (c.in_ok-note.ensures 0).ready

pub returns : goal.returns
returns c =
    step_done (λ caller. step_of c.args.vault.now (asked_by caller c.args.job.call) c.args.job.phase) c.in_ok-note.note c.args.actor c.args.job _ _ _ _ _ c.left_of.result c.in_ok-note.ensures c.in_ok-print_note.ensures c.left_of.ensures.left c.left_of.ensures.printed
