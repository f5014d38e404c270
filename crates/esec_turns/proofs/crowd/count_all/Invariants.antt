use Rattle.std.proofs.Common.{◌≡◌, replicate}
use Rattle.es_gate.specs.Gates.{IsPassOf, parts}
use Rattle.esec_turns.proofs.crowd.count_all.Given as goal

abbrev pub invariant-loop : goal.invariant-loop
invariant-loop g l = IsPassOf (λ c. replicate c.count 0) l.gate l.pass × (parts l.pass ≡ parts l.initial.pass)
