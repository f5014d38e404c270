use Rattle.std.proofs.Common.{◌≡◌, ℕ, replicate, ◌∙◌, ap, sym, arith, ◌++◌, List, [], ◌∷◌, Option, None}
use Rattle.std.proofs.lemmas.Grind.{replicate_next}
use Rattle.es_job.specs.Job.{JobValue}
use Rattle.es_drill.proofs.turning.no_jobs.Goals as goal

pub loop-preserved : goal.loop-preserved
loop-preserved c = c.in_ok-push.ensures.items ∙ ap (λ (jobs : List (Option JobValue)). jobs ++ None ∷ []) c.loop.invariant ∙ sym (replicate_next c.loop.counter None)

pub returns : goal.returns
returns c = let all : c.loop.counter ≡ 26 = omega arith in c.loop.invariant ∙ ap (λ (n : ℕ). replicate n None) all
