use Rattle.std.proofs.Common.{◌∙◌, ap, ◌-◌, set, Option}
use Rattle.es_job.specs.Job.{JobValue}
use Rattle.es_drill.proofs.Acting.{slot_turn, line_placed, line_stopped, bad_taken}
use Rattle.es_drill.proofs.turning.take_line.Goals as goal

pub do_line-requires-clause-actor : goal.do_line-requires-clause-actor
do_line-requires-clause-actor c = c.in-Some.ensures.actor

pub do_line-requires-clause-turn : goal.do_line-requires-clause-turn
do_line-requires-clause-turn c =
    (c.requires.jobs.0, c.requires.jobs.1, c.requires.jobs.2, slot_turn c.requires.jobs.3 _ c.in-Some.ensures.actor _ c.actor-at.ensures _ _ (c.take-slot.ensures.value ∙ c.index_mut.ensures.value))

pub returns-in_default : goal.returns-in_default
returns-in_default c = record { taken = λ secret limit S has. bad_taken S _ _ c.in_default.ensures.line _ _ _ }

pub returns-in-Ok : goal.returns-in-Ok
returns-in-Ok c = record {
  taken = λ secret limit S has.
      line_placed has c.args.number c.in-Some.line c.in-Some.ensures.actor c.args.bytes.now c.in-Some.ensures.line c.actor-at.result c.actor-at.ensures c.take-slot.new.self c.in-Ok.left _ _
      (ap (λ (j : Option JobValue). set (set c.args.jobs.now.items (c.actor-at.result - 1) c.take-slot.new.self) (c.actor-at.result - 1) j) c.put_back.ensures) _ _
      (c.in-Ok.ensures.done secret limit S (slot_turn has _ c.in-Some.ensures.actor _ c.actor-at.ensures _ _ (c.take-slot.ensures.value ∙ c.index_mut.ensures.value)));
}

pub returns-in-Err : goal.returns-in-Err
returns-in-Err c = record {
  taken = λ secret limit S has.
      line_stopped has c.args.number c.in-Some.line c.in-Some.ensures.actor c.args.bytes.now c.in-Some.ensures.line c.in-Err.stop _ _ _ _
      (c.in-Err.ensures.done secret limit S (slot_turn has _ c.in-Some.ensures.actor _ c.actor-at.ensures _ _ (c.take-slot.ensures.value ∙ c.index_mut.ensures.value)));
}
