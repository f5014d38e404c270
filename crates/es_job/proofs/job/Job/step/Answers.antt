use Rattle.std.proofs.Common.{◌≡◌, ◌≢◌, ◌||◌, true, subst}
use Rattle.es_job.specs.declared.note.NextStep.TheVariants as next
use Rattle.es_job.specs.declared.stepping.Step.{Step}
use Rattle.es_job.specs.Steps.{next_step_of, step_of, is_hit}
use Rattle.es_job.specs.Job.{JobValue, IsStep, phase_as}
use Rattle.es_job.proofs.Jobs.{on_err, stepped_to, or_first, or_second}
use Rattle.es_job.proofs.job.Job.step.Goals as goal
use Rattle.es_job.proofs.job.Job.step.Goals.{then-self, else-self}

pub returns-in_err-step-clause-asks : goal.returns-in_err-step-clause-asks
returns-in_err-step-clause-asks c = on_err c.from_residual.result _ (subst (λ (j : JobValue). next_step_of j.call j.phase ≢ next.Seen) c.self.view_is c.in_err-step.ensures.asks)

pub invariant_of-self : goal.invariant_of-self
invariant_of-self c =
    let i = c.self.inside in
    let step : Step = c.in_ok-step.step in
    let made : IsStep i.call (step_of c.args.vault.now (record { caller = 0; call = i.call }) (phase_as i.call i.work)) step i.turns c.next_step.new.vault = c.in_ok-step.ensures.ok 0 i.turns c.self.invariant.few in
    record { made = c.self.invariant.made; good = made.good; few = made.few }

pub returns-clause-ok : goal.returns-clause-ok
returns-clause-ok c = λ caller.
    let i = c.self.inside in
    let step : Step = c.in_ok-step.step in
    let made : IsStep i.call (step_of c.args.vault.now (record { caller = caller; call = i.call }) (phase_as i.call i.work)) step i.turns c.next_step.new.vault = c.in_ok-step.ensures.ok caller i.turns c.self.invariant.few in
    let hits : c.if-self.self ≡ (i.hit || is_hit step.note) =
    elim c.if-self.branch [
      | then-self w ↦ let same : c.if-self.self ≡ true = cc (w.self-is, w.if-self.true) in or_first i.hit (is_hit step.note) c.if-self.self w.if-self.true same
      | else-self w ↦ let same : c.if-self.self ≡ is_hit step.note = cc (w.self-is, w.is_hit-self-inside.ensures) in or_second i.hit (is_hit step.note) c.if-self.self w.if-self.false same
    ] in
    stepped_to i.call i.work i.turns i.hit c.args.self.now c.self.view_is c.args.vault.now c.next_step.new.vault caller step c.if-self.self hits made
