use Rattle.std.proofs.Common.{refl, sym, ap, subst, ◌∙◌}
use Rattle.std.proofs.lemmas.Result.{IfOk-weaker}
use Rattle.es_vault.specs.Answer.{Asked, Outcome, outcome_of}
use Rattle.es_vault.specs.Lent.{verdict_as}
use Rattle.es_vault.specs.Steps.{Changes}
use Rattle.es_vault.specs.Vault.{VaultValue}
use Rattle.es_vault.proofs.Outcomes.{change_by}
use Rattle.es_vault.proofs.vault.Vault.change_for.Goals as goal

pub returns-in-Refuses-clause-ok : goal.returns-in-Refuses-clause-ok
returns-in-Refuses-clause-ok c = λ caller.
    let v : VaultValue = c.args.self.now in
    let asked : Asked = record { caller = caller; call = c.args.call.now } in (
      change_by v.limit v.at asked c.args.subject.now (verdict_as c.in_ok-reply.field-0) c.requires.granted c.in_ok-reply.ensures.verdict ∙ ap (λ x. outcome_of v.limit v.at asked (verdict_as x)) c.in-Refuses.is,
      refl,
      ap (λ (u : VaultValue). u.at.place) c.self.view_is,
    )

pub returns-in-Accepts-clause-ok : goal.returns-in-Accepts-clause-ok
returns-in-Accepts-clause-ok c =
    let v : VaultValue = c.args.self.now in
    IfOk-weaker c.accept_within.result _ _
    (λ answer says caller.
    let asked : Asked = record { caller = caller; call = c.args.call.now } in
    let comes =
    change_by v.limit v.at asked c.args.subject.now (verdict_as c.in_ok-reply.field-0) c.requires.granted c.in_ok-reply.ensures.verdict ∙ ap (λ x. outcome_of v.limit v.at asked (verdict_as x)) c.in-Accepts.is in
    subst (λ (o : Outcome). Changes v c.accept_within.new.self o answer) (sym comes) (says caller))
    c.accept_within.ensures.ok

pub returns-in-Undrawn-clause-ok : goal.returns-in-Undrawn-clause-ok
returns-in-Undrawn-clause-ok c =
    let v : VaultValue = c.args.self.now in
    IfOk-weaker c.undrawn.result _ _
    (λ answer says caller.
    let asked : Asked = record { caller = caller; call = c.args.call.now } in
    let comes =
    change_by v.limit v.at asked c.args.subject.now (verdict_as c.in_ok-reply.field-0) c.requires.granted c.in_ok-reply.ensures.verdict ∙ ap (λ x. outcome_of v.limit v.at asked (verdict_as x)) c.in-Undrawn.is in
    subst (λ (o : Outcome). Changes v v o answer) (sym comes) says)
    c.undrawn.ensures
