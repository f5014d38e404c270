use Rattle.es_wire.proofs.GatherLemmas.{Gathers-finished}
use Rattle.es_wire.proofs.sending.finish.Goals as goal

pub returns-in-Ok-clause-sends : goal.returns-in-Ok-clause-sends
returns-in-Ok-clause-sends g c = λ first bytes gathers.
    Gathers-finished g.K.Sink.output g.K.Sink.write_leaves first _ _ _ bytes _ (rw c.in-Ok.is at gathers) (rw c.as_slice.ensures.value at c.put.ensures.sends)
