use Rattle.es_edge.proofs.SendLemmas.{Sends-then, Sends-stop}
use Rattle.es_wire.proofs.sending.put_both.Goals as goal

pub returns-in-Ok-clause-sends : goal.returns-in-Ok-clause-sends
returns-in-Ok-clause-sends g c = Sends-then c.in-Ok.ensures.sends c.put-in-Ok.ensures.sends

pub returns-in-WriteFault-clause-sends : goal.returns-in-WriteFault-clause-sends
returns-in-WriteFault-clause-sends g c = Sends-stop c.args.second.now c.in-WriteFault.ensures.sends
