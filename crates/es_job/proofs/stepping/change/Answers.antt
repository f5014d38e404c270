use Rattle.std.proofs.Common.{subst}
use Rattle.es_vault.specs.Answer.{Asked, change_in}
use Rattle.es_vault.specs.Steps.{Changes}
use Rattle.es_vault.specs.Vault.{VaultValue}
use Rattle.es_job.proofs.Stepped.{due_reached, due_granted, change_made, change_refused, change_full}
use Rattle.es_job.proofs.stepping.change.Goals as goal

pub change-requires-clause-reached : goal.change-requires-clause-reached
change-requires-clause-reached c = due_reached c.args.call.now c.args.snapshot.now c.args.vault.now c.requires.known c.requires.due c.requires.past

pub change-requires-clause-granted : goal.change-requires-clause-granted
change-requires-clause-granted c = due_granted c.args.call.now c.args.snapshot.now c.args.vault.now c.requires.known c.requires.due c.requires.past

pub returns-in-Changed-clause-ok : goal.returns-in-Changed-clause-ok
returns-in-Changed-clause-ok c = λ caller turns few.
    let vault : VaultValue = c.args.vault.now in
    let asked : Asked = record { caller = caller; call = c.args.call.now } in
    change_made c.args.call.now vault c.change.new.self (change_in vault.limit vault.at asked) turns few c.in-Changed.place c.in-Changed.reply
    (subst (Changes vault c.change.new.self (change_in vault.limit vault.at asked)) c.in-Changed.is (c.in_ok-place.ensures.ok caller))

pub returns-in-Refused-clause-ok : goal.returns-in-Refused-clause-ok
returns-in-Refused-clause-ok c = λ caller turns few.
    let vault : VaultValue = c.args.vault.now in
    let asked : Asked = record { caller = caller; call = c.args.call.now } in
    change_refused c.args.call.now vault c.change.new.self (change_in vault.limit vault.at asked) turns few c.in-Refused.place c.in-Refused.reply
    (subst (Changes vault c.change.new.self (change_in vault.limit vault.at asked)) c.in-Refused.is (c.in_ok-place.ensures.ok caller))

pub returns-in-Full-clause-ok : goal.returns-in-Full-clause-ok
returns-in-Full-clause-ok c = λ caller turns few.
    let vault : VaultValue = c.args.vault.now in
    let asked : Asked = record { caller = caller; call = c.args.call.now } in
    change_full c.args.call.now vault c.change.new.self (change_in vault.limit vault.at asked) turns few c.in-Full.place c.in-Full.reply
    (subst (Changes vault c.change.new.self (change_in vault.limit vault.at asked)) c.in-Full.is (c.in_ok-place.ensures.ok caller))
