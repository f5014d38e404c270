-- Where a list of truth values is true.
use Rattle.std.specs.Prelude.{ℕ, List, Bool, map, filter}
use Rattle.std.specs.List.{enumerate_from}

-- the places of the true values in ascending order, where the first value of the list has this place
unfoldable pub true_places_from : ℕ → List Bool → List ℕ
true_places_from first truths = map (λ p. p.0) (filter (λ p. p.1) (enumerate_from first truths))

-- the places of the true values, counted from 0, in ascending order
abbrev pub true_places : List Bool → List ℕ
true_places truths = true_places_from 0 truths
