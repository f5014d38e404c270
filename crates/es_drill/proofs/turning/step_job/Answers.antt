use Rattle.std.proofs.Common.{ap, ◌∙◌}
use Rattle.es_job.specs.Job.{JobValue}
use Rattle.es_drill.proofs.turning.step_job.Goals as goal

pub returns : goal.returns
returns c = λ caller.
    let s = c.in_ok-note.ensures.ok caller in
    let worked = c.in_ok-work.ensures.ok in
    record {
      noted = s.noted;
      left = s.left;
      call = ap (λ (j : JobValue). j.call) worked ∙ s.call;
      phase = ap (λ (j : JobValue). j.phase) worked ∙ s.phase;
      ready = ap (λ (j : JobValue). j.ready) worked;
    }
