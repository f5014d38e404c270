use Rattle.std.proofs.Common.{sym, ◌∙◌}
use Rattle.es_job.proofs.Told.{told_stopped, told_read}
use Rattle.es_job.proofs.telling.told.Goals as goal

pub returns-in-Some : goal.returns-in-Some
returns-in-Some c = told_stopped c.args.call.now c.args.snapshot.now c.args.halves.now c.requires c.in-Some.reply (sym c.in-Some.is ∙ c.in_ok-reply.ensures)

pub returns : goal.returns
returns c =
    told_read c.args.call.now c.args.snapshot.now c.args.halves.now c.requires c.in_ok-reply-2.reply (sym c.in_default.is ∙ c.in_ok-reply.ensures) (sym c.is_change.ensures ∙ c.if-is_change.false) c.in_ok-reply-2.ensures
