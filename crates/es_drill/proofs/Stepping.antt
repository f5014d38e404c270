-- One step of a job, as a step of its task.
use Rattle.std.proofs.Common.{◌≡◌, ◌≢◌, ℕ, List, [], ◌++◌, Option, Some, None, Bool, true, Result, Ok, Err, IfOk, refl, sym, ap, subst, ◌∙◌, append-nil, append_assoc}
use Rattle.es_base.specs.declared.memory.NoMemory.{NoMemory}
use Rattle.es_request.specs.declared.call.Call.{Call}
use Rattle.es_vault.specs.Vault.{VaultValue}
use Rattle.es_response.specs.Reply.{ReplyValue}
use Rattle.es_job.specs.declared.note.Note.{Note}
use Rattle.es_job.specs.declared.note.NextStep.TheVariants as next
use Rattle.es_job.specs.Steps.{Phase, begun, publishing, changing, ended, Stepped, next_step_of}
use Rattle.es_job.specs.Job.{JobValue}
use Rattle.es_job.specs.Core.{task_left}
use Rattle.es_drill.specs.Output.{note_line, reply_line, reply_behind}
use Rattle.es_drill.specs.Keeping.{asked_by, IsJobOf, IsStepMade, IsMadeOf}

going : (caller : ℕ) (call : Call) (phase : Phase) (job : JobValue) → job.call ≡ call → job.phase ≡ phase → job.ready ≡ true → next_step_of call phase ≢ next.Done → IsJobOf (task_left (asked_by caller call) phase) (Some job)
going caller call begun job is at ready due = (is, at, ready)
going caller call (publishing s keys) job is at ready due = (is, at, ready)
going caller call (changing s) job is at ready due = (is, at, ready)
going caller call (ended place changed reply) job is at ready due = absurd (due refl)

-- a job that hasn't ended is left
pub left_going : (caller : ℕ) (job : JobValue) → job.ready ≡ true → next_step_of job.call job.phase ≢ next.Done → IsJobOf (task_left (asked_by caller job.call) job.phase) (Some job)
left_going caller job ready due = going caller job.call job.phase job refl refl ready due

silent : (actor : ℕ) (call : Call) (phase : Phase) → next_step_of call phase ≢ next.Done → reply_behind actor phase ≡ []
silent actor call begun due = refl
silent actor call (publishing s keys) due = refl
silent actor call (changing s) due = refl
silent actor call (ended place changed reply) due = absurd (due refl)

-- and prints no reply
pub silent_going : (actor : ℕ) (call : Call) (phase : Phase) (printed : List ℕ) → next_step_of call phase ≢ next.Done → printed ≡ printed ++ reply_behind actor phase
silent_going actor call phase printed due = sym (ap (λ (q : List ℕ). printed ++ q) (silent actor call phase due) ∙ append-nil printed)

-- one that has ended isn't left
pub left_ended : (caller : ℕ) (call : Call) (phase : Phase) (place : ℕ) (changed : Bool) (reply : ReplyValue) → phase ≡ ended place changed reply → IsJobOf (task_left (asked_by caller call) phase) None
left_ended caller call phase place changed reply is = subst (λ (q : Phase). IsJobOf (task_left (asked_by caller call) q) None) (sym is) tt

pub reply_ended : (actor : ℕ) (phase : Phase) (place : ℕ) (changed : Bool) (reply : ReplyValue) (printed printed' : List ℕ) → phase ≡ ended place changed reply → printed' ≡ printed ++ reply_line actor reply.status place reply.body
    → printed' ≡ printed ++ reply_behind actor phase
reply_ended actor phase place changed reply printed printed' is e = e ∙ ap (λ (q : Phase). printed ++ reply_behind actor q) (sym is)

-- a step, its line, and what is left of the job
pub made_of : (stepped : Stepped) (n : Note) (actor caller : ℕ) (old job : JobValue) (left : Option JobValue) (vault : VaultValue) (p q r : List ℕ) → IsStepMade stepped n old job vault
    → q ≡ p ++ note_line actor n → IsJobOf (task_left (asked_by caller job.call) job.phase) left → r ≡ q ++ reply_behind actor job.phase → IsMadeOf stepped actor caller old.call left vault p r
made_of stepped n actor caller old job left vault p q r step noted is behind = record {
  vault_is = step.left;
  printed_is =
      behind ∙ ap (λ (x : List ℕ). x ++ reply_behind actor job.phase) noted ∙ append_assoc p (note_line actor n) (reply_behind actor job.phase)
      ∙ (λ i. p ++ (note_line actor (step.noted i) ++ reply_behind actor (step.phase i)));
  left_is = (λ (e : task_left (asked_by caller job.call) job.phase ≡ task_left (asked_by caller old.call) stepped.phase). subst (λ o. IsJobOf o left) e is) (λ i. task_left (asked_by caller (step.call i)) (step.phase i));
}

-- so it is of what comes back
pub step_done : (stepped : ℕ → Stepped) (n : Note) (actor : ℕ) (old job : JobValue) (vault : VaultValue) (p q r : List ℕ) (result : Result (Option JobValue) NoMemory) → ((caller : ℕ) → IsStepMade (stepped caller) n old job vault)
    → q ≡ p ++ note_line actor n → IfOk result (λ left. (caller : ℕ) → IsJobOf (task_left (asked_by caller job.call) job.phase) left) → IfOk result (λ left. r ≡ q ++ reply_behind actor job.phase)
    → IfOk result (λ left. (caller : ℕ) → IsMadeOf (stepped caller) actor caller old.call left vault p r)
step_done stepped n actor old job vault p q r (Ok left) step noted is behind = λ caller. made_of (stepped caller) n actor caller old job left vault p q r (step caller) noted (is caller) behind
step_done stepped n actor old job vault p q r (Err e) step noted is behind = tt
