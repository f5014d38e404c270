use Rattle.std.proofs.Common.{refl, ◌∙◌}
use Rattle.es_drill.proofs.Drilling.{fault_put, fault_unput, fault_said}
use Rattle.es_drill.proofs.taking.put_fault.Goals as goal

pub returns-in-Ok-clause-taken : goal.returns-in-Ok-clause-taken
returns-in-Ok-clause-taken g c = fault_put (c.as_bytes.ensures.value ∙ c.text.ensures) c.in-Ok.ensures.sends c.args.number c.args.what (fault_said c.args.number c.args.what _ _ _ c.if-is_err.ensures.value c.requires.nothing c.print_fault.ensures)

pub returns-in-WriteFault-clause-taken : goal.returns-in-WriteFault-clause-taken
returns-in-WriteFault-clause-taken g c = fault_unput (c.as_bytes.ensures.value ∙ c.text.ensures) c.in-WriteFault.ensures.sends c.args.number c.args.what (fault_said c.args.number c.args.what _ _ _ c.if-is_err.ensures.value c.requires.nothing c.print_fault.ensures)

pub returns-then-is_err-clause-taken : goal.returns-then-is_err-clause-taken
returns-then-is_err-clause-taken g c = λ vault jobs. refl
