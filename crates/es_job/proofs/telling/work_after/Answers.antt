use Rattle.std.proofs.Common.{◌≡◌, ℕ, [], sym, subst, ◌∙◌, arith}
use Rattle.es_job.specs.declared.work.Work.{Work}
use Rattle.es_job.specs.Due.{due_pairs}
use Rattle.es_job.specs.Job.{HasTurns, IsWorked}
use Rattle.es_job.proofs.Stepped.{next_none}
use Rattle.es_job.proofs.telling.work_after.Goals as goal

pub returns-in_ok-told-in-Looked : goal.returns-in_ok-told-in-Looked
returns-in_ok-told-in-Looked c =
    let empty : due_pairs c.in-Looked.due ≡ [] = next_none c.next.result (due_pairs c.in-Looked.due) (sym c.is_some.ensures ∙ c.if-is_some.false) c.next.ensures in
    record {
      ok = subst (λ (w : Work). (turns : ℕ) → HasTurns w turns → IsWorked c.args.call.now w c.in_ok-told-in-Looked.field-0 turns) (sym c.in-Looked.is)
          (λ turns few. c.in_ok-told-in-Looked.ensures c.in-Looked.due turns empty (omega (arith, few)));
      asks = tt;
    }
