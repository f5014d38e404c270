use Rattle.std.proofs.Common.{refl}
use Rattle.std.proofs.lemmas.Result.{IfOk-weaker}
use Rattle.es_job.proofs.Stepped.{at_work, at_begun, at_changing}
use Rattle.es_job.proofs.stepping.next_step.Goals as goal

pub returns-in-Begun-clause-ok : goal.returns-in-Begun-clause-ok
returns-in-Begun-clause-ok c =
    IfOk-weaker c.begin.result _ _ (λ step made caller turns. at_begun c.args.call.now c.args.work.now _ c.in-Begun.is c.args.vault.now c.begin.new.vault caller turns step refl made) c.begin.ensures.ok

pub returns-in-Looked-clause-ok : goal.returns-in-Looked-clause-ok
returns-in-Looked-clause-ok c =
    IfOk-weaker c.publish.result _ _ (λ step made caller turns. at_work c.args.call.now c.args.work.now _ c.in-Looked.is c.args.vault.now c.publish.new.vault caller turns step (made caller turns)) c.publish.ensures.ok

pub returns-in-Changing-clause-ok : goal.returns-in-Changing-clause-ok
returns-in-Changing-clause-ok c =
    IfOk-weaker c.change.result _ _
    (λ step made caller turns.
    at_changing c.args.call.now c.args.work.now _ c.in-Changing.is c.args.vault.now c.change.new.vault caller turns step c.in-Changing.snapshot c.in-Changing._halves refl (made caller turns))
    c.change.ensures.ok
