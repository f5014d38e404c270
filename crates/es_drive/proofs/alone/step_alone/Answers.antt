use Rattle.std.proofs.Common.{ap, ◌∙◌}
use Rattle.es_job.specs.Job.{JobValue}
use Rattle.es_drive.proofs.Noting.{hits_alike}
use Rattle.es_drive.proofs.alone.step_alone.Goals as goal

pub returns-clause-ok : goal.returns-clause-ok
returns-clause-ok c = λ caller.
    let stepped = c.in_ok-step.ensures.ok caller in
    let worked = c.in_ok-work.ensures.ok in
    record {
      left = stepped.left;
      call = ap (λ (j : JobValue). j.call) worked ∙ stepped.call;
      phase = ap (λ (j : JobValue). j.phase) worked ∙ stepped.phase;
      hit = ap (λ (j : JobValue). j.hit) worked ∙ stepped.hit ∙ hits_alike _ _ _ stepped.noted;
      ready = ap (λ (j : JobValue). j.ready) worked;
    }
