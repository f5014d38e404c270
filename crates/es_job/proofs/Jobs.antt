-- A job after a step, and after the local work between steps.
use Rattle.std.proofs.Common.{◌≡◌, ℕ, ◌+◌, ◌≤◌, ◌||◌, Bool, true, false, refl, sym, ap, subst, ◌∙◌, arith}
use Rattle.std.specs.Prelude.{Result, Ok, Err, OnErr}
use Rattle.es_request.specs.declared.call.Call.{Call}
use Rattle.es_vault.specs.Vault.{VaultValue}
use Rattle.es_job.specs.declared.stepping.Step.{Step}
use Rattle.es_job.specs.declared.work.Work.{Work}
use Rattle.es_job.specs.declared.work.Work.TheVariants as work
use Rattle.es_job.specs.Steps.{step_of, is_hit, ready_after}
use Rattle.es_job.specs.Job.{JobValue, job_of, phase_as, HasTurns, HasStepped, IsStep, IsWorked}

module _ (call : Call) (w : Work) (turns : ℕ) (hit : Bool) (old : JobValue) (view : job_of call w turns hit ≡ old) where
  pub stepped_to : (vault new : VaultValue) (caller : ℕ) (step : Step) (hits : Bool) → hits ≡ (hit || is_hit step.note) → IsStep call (step_of vault (record { caller = caller; call = call }) (phase_as call w)) step turns new
      → HasStepped (step_of vault (record { caller = caller; call = old.call }) old.phase) step.note old (job_of call step.work (turns + 1) hits) new
  stepped_to vault new caller step hits hits_are made =
      subst (λ (j : JobValue). HasStepped (step_of vault (record { caller = caller; call = j.call }) j.phase) step.note j (job_of call step.work (turns + 1) hits) new) view (record {
        noted = made.noted;
        left = made.left;
        call = refl;
        phase = made.phase;
        turns = refl;
        hit = hits_are;
        ready = made.ready ∙ ap (ready_after step.note) (sym made.phase);
      })

  pub worked_to : (after : Work) → IsWorked call w after turns → job_of call after turns hit ≡ record old { ready = true }
  worked_to after is =
      (λ i. record { call = call; phase = is.phase i; turns = turns; hit = hit; ready = is.ready i }) ∙ ap (λ (j : JobValue). record j { ready = true }) view

-- a job makes few steps
pub few_turns : (w : Work) (turns : ℕ) → HasTurns w turns → turns ≤ 5
few_turns work.Begun turns few = omega (arith, few)
few_turns (work.Missed s keys) turns few = omega (arith, few)
few_turns (work.Looked s halves due) turns few = omega (arith, few)
few_turns (work.Changing s halves) turns few = omega (arith, few)
few_turns (work.Unknown place) turns few = omega (arith, few)
few_turns (work.Ended place changed reply) turns few = omega (arith, few)

-- a failed call leaves what it leaves, whatever its error is
pub on_err : {T E : Type 0} (r : Result T E) (Q : Type 0) → Q → OnErr r Q
on_err (Ok x) Q q = tt
on_err (Err e) Q q = q

-- either of two is noted
pub or_first : (a b r : Bool) → a ≡ true → r ≡ true → r ≡ (a || b)
or_first a b r is same = same ∙ sym (ap (λ t. t || b) is)

pub or_second : (a b r : Bool) → a ≡ false → r ≡ b → r ≡ (a || b)
or_second a b r is same = same ∙ sym (ap (λ t. t || b) is)
