use Rattle.std.proofs.Common.{Some, None, sym, ap, ◌∙◌}
use Rattle.es_request.specs.Needs.{need_of}
use Rattle.es_vault.specs.Decision.{decided_by, denial_of}
use Rattle.es_vault.specs.Stops.{IsStop}
use Rattle.es_job.proofs.Facts.{behind, allowed_stop}
use Rattle.es_job.proofs.telling.stopped.Goals as goal

pub returns-then-snapshot-call : goal.returns-then-snapshot-call
returns-then-snapshot-call c =
    ap (λ r. Some r) c.in_ok-reply.ensures ∙ sym (behind c.args.call.now c.args.snapshot.now c.requires.looked c.if-snapshot-call.true)

pub returns-in-Ok : goal.returns-in-Ok
returns-in-Ok c = allowed_stop c.args.call.now c.args.snapshot.now c.requires.looked c.args.halves.now c.requires.halves_are c.if-snapshot-call.false None c.in-Ok.ensures.stops

pub returns-in-Reply : goal.returns-in-Reply
returns-in-Reply c =
    let s = c.args.snapshot.now in
    let stops : IsStop c.in-Err.stop (denial_of (decided_by s.subject c.args.halves.now c.args.call.now.run_as (need_of c.args.call.now.request))) = c.in-Err.ensures.stops in
    allowed_stop c.args.call.now s c.requires.looked c.args.halves.now c.requires.halves_are c.if-snapshot-call.false (Some c.in-Reply.reply) (rw c.in-Reply.is at stops)
