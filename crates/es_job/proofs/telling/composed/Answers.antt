use Rattle.es_job.proofs.Composed.{composed_work}
use Rattle.es_job.proofs.telling.composed.Goals as goal

pub returns : goal.returns
returns c =
    composed_work c.args.call.now c.args.snapshot.now c.in_ok-share.field-0 c.args.keys.now c.in_ok-halves.halves c.in_ok-due.due c.requires.0 c.requires.1 c.in_ok-share.ensures c.in_ok-halves.ensures c.in_ok-due.ensures
