use Rattle.std.proofs.Common.{Some, None, sym, ap, subst, arith, ◌∷◌, List, ℕ}
use Rattle.std.proofs.lemmas.Str.Pattern.{split_once_first}
use Rattle.es_route.specs.Paths.{SegmentsAre}
use Rattle.es_route.proofs.Cutting.{one_segment, first_segment}
use Rattle.es_route.proofs.segments.behind_one.Goals as goal

pub returns-in-None : goal.returns-in-None
returns-in-None c = ap (λ (q : List (List ℕ)). c.args.first.now ∷ q) (one_segment _ (split_once_first 47 c.args.text.now None c.in-None.ensures.cases (omega arith)))

pub returns-in-Some : goal.returns-in-Some
returns-in-Some c = let found = split_once_first 47 c.args.text.now (Some (c.in-Some.second, c.in-Some.rest)) c.in-Some.ensures.cases (omega arith) in subst (λ (q : List (List ℕ)). SegmentsAre c.behind_two.result (c.args.first.now ∷ q)) (sym (first_segment c.args.text.now c.in-Some.second.now c.in-Some.rest.now found.0 found.1 found.2)) c.behind_two.ensures
