-- What comes of a change, by what is decided and what the state says.
use Rattle.std.proofs.Common.{◌≡◌, ℕ, ◌+◌, List, Option, Some, None, sym, ap, subst, ◌∙◌}
use Rattle.es_response.specs.Reply.{ReplyValue}
use Rattle.es_keys.specs.declared.kinds.Subject.{Subject}
use Rattle.es_request.specs.declared.call.Call.{Call}
use Rattle.es_vault.specs.declared.verdict.Verdict as given
use Rattle.es_vault.specs.Decision.{Decision, no_caller, no_run_as, denied, denied_cluster, granted, decision, denial_of}
use Rattle.es_vault.specs.World.{PlacedWorld}
use Rattle.es_vault.specs.Changes.{Verdict, verdict_in}
use Rattle.es_vault.specs.Answer.{Asked, IsMade, Outcome, refused, outcome_of, outcome_for, change_in}
use Rattle.es_vault.specs.Lent.{verdict_as}
use Rattle.es_vault.specs.Steps.{VerdictFits}
use Rattle.es_vault.specs.Vault.{VaultValue}
use Rattle.es_vault.proofs.Verdicts.{verdict_fits}

pub verdict_good : (v seen : VaultValue) → v ≡ seen → (subject : Subject) (call : Call) (verdict : given.Verdict) → IsMade call
    → verdict_as verdict ≡ verdict_in v.at.world (v.at.place + 1) subject call.moment call.draw call.request → VerdictFits (seen.at.place + 1) (verdict_as verdict)
verdict_good v seen same subject call verdict made is =
    subst (λ (u : VaultValue). VerdictFits (u.at.place + 1) (verdict_as verdict)) same
    (subst (VerdictFits (v.at.place + 1)) (sym is) (verdict_fits v.at.world (v.at.place + 1) subject call.moment call.draw call.request made.moment made.timely))

module _ (limit : ℕ) (at : PlacedWorld) (asked : Asked) where
  -- a change that is granted comes to what the state says
  pub change_by : (subject : Subject) (verdict : Verdict) → decision at.world.records asked.call ≡ granted subject
      → verdict ≡ verdict_in at.world (at.place + 1) subject asked.call.moment asked.call.draw asked.call.request → change_in limit at asked ≡ outcome_of limit at asked verdict
  unfolding change_in
  change_by subject verdict is says = ap (outcome_for limit at asked) is ∙ ap (outcome_of limit at asked) (sym says)

  denied_by : (d : Decision) (reply : ReplyValue) → denial_of d ≡ Some reply → outcome_for limit at asked d ≡ refused reply
  denied_by no_caller reply e = ap refused (cc e)
  denied_by (no_run_as caller target) reply e = ap refused (cc e)
  denied_by (denied subject action index) reply e = ap refused (cc e)
  denied_by (denied_cluster subject action) reply e = ap refused (cc e)
  denied_by (granted subject) reply e = cc e

  -- one that isn't comes to its denial
  pub change_denied : (reply : ReplyValue) → denial_of (decision at.world.records asked.call) ≡ Some reply → change_in limit at asked ≡ refused reply
  unfolding change_in
  change_denied reply denial = denied_by (decision at.world.records asked.call) reply denial
