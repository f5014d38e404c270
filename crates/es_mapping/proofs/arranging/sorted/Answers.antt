use Rattle.std.proofs.Common.{rules}
use Rattle.std.specs.Ordering.{is_lt}
use Rattle.std.proofs.lemmas.List.MinMax.{ranks_by}
use Rattle.std.proofs.lemmas.Fn.{always_returns_same}
use Rattle.es_mapping.specs.Paths.{path_cmp}
use Rattle.es_mapping.proofs.Pieces.{path_total}
use Rattle.es_mapping.proofs.arranging.sorted.Goals as goal

pub returns-clause-sorted : goal.returns-clause-sorted
returns-clause-sorted c =
    c.in_ok-sort_by.ensures.sorted (λ x y. is_lt (path_cmp x.name y.name)) (ranks_by path_total (λ f. f.name)) (always_returns_same _ _ _ (λ a r next called. (search rules, search rules)))
