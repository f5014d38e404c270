-- What a query sees is all that it depends on.
use Rattle.std.proofs.Common.{ap}
use Rattle.es_match.specs.Seen.{Seen}
use Rattle.es_match.specs.Holds.{holds_on, HoldsAlike}

pub alike : HoldsAlike
alike one other same query =
    ap (λ (seen : Seen). holds_on seen query) (λ i field. same field i)
