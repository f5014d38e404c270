use Rattle.std.proofs.Common.{Some, None, ap, arith, ◌∷◌, List, ℕ}
use Rattle.std.proofs.lemmas.Str.Pattern.{split_once_first}
use Rattle.es_route.proofs.Cutting.{one_segment}
use Rattle.es_route.proofs.Cutting.{five_at_least}
use Rattle.es_route.proofs.segments.behind_three.Goals as goal

pub returns-in-None : goal.returns-in-None
returns-in-None c = ap (λ (q : List (List ℕ)). c.args.first.now ∷ c.args.second.now ∷ c.args.third.now ∷ q) (one_segment _ (split_once_first 47 c.args.text.now None c.in-None.ensures.cases (omega arith)))

pub returns-in-Some : goal.returns-in-Some
returns-in-Some c = let found = split_once_first 47 c.args.text.now (Some (c.in-Some._fourth, c.in-Some._rest)) c.in-Some.ensures.cases (omega arith) in five_at_least c.args.first.now c.args.second.now c.args.third.now c.args.text.now c.in-Some._fourth.now c.in-Some._rest.now found.0 found.1 found.2
