use Rattle.std.proofs.Common.{subst}
use Rattle.es_drill.specs.Drill.{Does}
use Rattle.es_drill.specs.Keeping.{TakenBy}
use Rattle.es_drill.proofs.Drilling.{made_taken, refused_by}
use Rattle.es_drill.proofs.taking.take_at.Goals as goal

pub put_fault-requires-clause-nothing : goal.put_fault-requires-clause-nothing
put_fault-requires-clause-nothing g c =
    let jobs = c.requires.jobs in
    (refused_by _ _ c.in-Err-Refused.what _ _ _ _ c.in-Err-Refused.field-0-is c.empty-printed.ensures (c.in-Err-Refused.ensures.taken jobs.0 jobs.1 jobs.2 jobs.3)).1

pub returns-in-Ok-clause-taken : goal.returns-in-Ok-clause-taken
returns-in-Ok-clause-taken g c = λ secret limit S has.
    c.put_made.ensures.taken c.args.number _ _ _ (made_taken _ _ _ _ _ _ c.in-Ok.field-0 c.empty-printed.ensures c.text.ensures (c.in-Ok.ensures.taken secret limit S has))

pub returns-in-Err-Refused-clause-taken : goal.returns-in-Err-Refused-clause-taken
returns-in-Err-Refused-clause-taken g c = λ secret limit S has.
    let by = refused_by _ _ c.in-Err-Refused.what _ _ _ _ c.in-Err-Refused.field-0-is c.empty-printed.ensures (c.in-Err-Refused.ensures.taken secret limit S has) in
    subst (λ (does : Does). TakenBy c.args.number does c.take_line.new.vault c.take_line.new.jobs.items (g.K.Sink.output c.args.sink.now) (g.K.Sink.output c.put_fault.new.sink) c.put_fault.result) by.0
    (c.put_fault.ensures.taken _ _)
