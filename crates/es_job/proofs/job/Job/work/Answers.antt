use Rattle.std.proofs.Common.{Option, sym, ap, subst, ◌∙◌}
use Rattle.es_job.specs.declared.work.Work.{Work}
use Rattle.es_job.specs.Job.{JobValue, IsWorked, WorkDone}
use Rattle.es_job.proofs.Jobs.{on_err, worked_to}
use Rattle.es_job.proofs.job.Job.work.Goals as goal

pub returns-in_err-work-clause-asks : goal.returns-in_err-work-clause-asks
returns-in_err-work-clause-asks c = on_err c.from_residual.result _ (sym (ap (λ (j : JobValue). j.ready) c.self.view_is) ∙ c.in_err-work.ensures.asks)

pub invariant_of-self : goal.invariant_of-self
invariant_of-self c =
    let i = c.self.inside in
    let done : IsWorked i.call i.work c.in-Some.work i.turns = subst (λ (n : Option Work). WorkDone i.call i.work n i.turns) c.in-Some.is (c.in_ok-work.ensures.ok i.turns c.self.invariant.few) in
    record { made = c.self.invariant.made; good = done.good; few = done.few }

pub returns-clause-ok : goal.returns-clause-ok
returns-clause-ok c =
    let i = c.self.inside in
    let done : IsWorked i.call i.work c.in-Some.work i.turns = subst (λ (n : Option Work). WorkDone i.call i.work n i.turns) c.in-Some.is (c.in_ok-work.ensures.ok i.turns c.self.invariant.few) in
    worked_to i.call i.work i.turns i.hit c.args.self.now c.self.view_is c.in-Some.work done
