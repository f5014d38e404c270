use Rattle.es_wire.proofs.GatherLemmas.{Gathers-sent, Gathers-stop}
use Rattle.es_wire.proofs.sending.add.Goals as goal

pub returns-clause-gathers : goal.returns-clause-gathers
returns-clause-gathers g c = λ first before gathers.
    rw c.clear.ensures
    (Gathers-sent g.K.Sink.output g.K.Sink.write_leaves first _ _ _ _ before _ (rw c.in-Ok.is at gathers)
    (rw c.as_slice.ensures.value at c.put_both-out.ensures.sends)
    (λ left. g.met.K.Sink.write_leaves_then _ _ _ left c.put_both-out.ensures.leaves))

pub returns-in-WriteFault-clause-gathers : goal.returns-in-WriteFault-clause-gathers
returns-in-WriteFault-clause-gathers g c = λ first before gathers.
    rw c.in-WriteFault.is (Gathers-stop g.K.Sink.output g.K.Sink.write_leaves first _ _ c.args.bytes.now before (rw c.in-WriteFault.is at gathers))
