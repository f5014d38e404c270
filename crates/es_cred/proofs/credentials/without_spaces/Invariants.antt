use Rattle.std.proofs.Common.{◌≡◌, length}
use Rattle.es_cred.specs.Credentials.{skip_spaces}
use Rattle.es_cred.proofs.credentials.without_spaces.Given as goal

-- what is left has the same bytes behind its spaces
abbrev pub invariant-loop-rest : goal.invariant-loop-rest
invariant-loop-rest l = skip_spaces l.rest ≡ skip_spaces l.bytes

abbrev pub decreases-loop-rest : goal.decreases-loop-rest
decreases-loop-rest l = length l.rest
