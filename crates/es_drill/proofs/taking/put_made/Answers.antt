use Rattle.es_drill.proofs.Drilling.{made_put, made_unput}
use Rattle.es_drill.proofs.taking.put_made.Goals as goal

pub returns-in-Ok-clause-taken : goal.returns-in-Ok-clause-taken
returns-in-Ok-clause-taken g c = made_put c.as_bytes.ensures.value c.in-Ok.ensures.sends

pub returns-in-WriteFault-clause-taken : goal.returns-in-WriteFault-clause-taken
returns-in-WriteFault-clause-taken g c = made_unput c.as_bytes.ensures.value c.in-WriteFault.ensures.sends
