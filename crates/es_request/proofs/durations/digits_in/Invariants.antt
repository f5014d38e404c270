use Rattle.std.proofs.Common.{◌≡◌, ◌+◌, drop}
use Rattle.es_request.specs.Keys.{digits_in}
use Rattle.es_request.proofs.durations.digits_in.Given as goal

abbrev pub invariant-loop-at : goal.invariant-loop-at
invariant-loop-at l = l.at + digits_in (drop l.at l.text) ≡ digits_in l.text
