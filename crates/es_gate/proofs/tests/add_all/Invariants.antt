use Rattle.std.proofs.Common.{◌≡◌, ◌≤◌}
use Rattle.es_gate.specs.Gates.{IsPassOf, added, parts}
use Rattle.es_gate.proofs.tests.add_all.Given as goal

abbrev pub invariant-loop-i : goal.invariant-loop-i
invariant-loop-i g l = IsPassOf (λ v. v.items.items) l.gate l.pass × (parts l.pass ≡ parts l.initial.pass) × (added l.pass ≡ l.done) × (l.done ≤ l.i)
