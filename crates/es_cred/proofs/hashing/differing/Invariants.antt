use Rattle.std.proofs.Common.{◌≡◌, drop}
use Rattle.es_cred.specs.Digest.{differing_from}
use Rattle.es_cred.proofs.hashing.differing.Given as goal

-- what is gathered so far and what the bytes that are left add
abbrev pub invariant-loop-at : goal.invariant-loop-at
invariant-loop-at l = differing_from l.bits (drop l.at l.one) (drop l.at l.other) ≡ differing_from 0 l.one l.other
