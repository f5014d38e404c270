-- Links that are still to come.
use Rattle.std.proofs.Common.{◌≡◌, suc, List, ◌∷◌, All, subst, arith}

-- what holds of all holds of those behind the first
pub rest_all : {A : Type 0} (P : A → Type 0) (x : A) (all rest : List A) → all ≡ x ∷ rest → All P all → All P rest
rest_all {A} P x all rest is holds = λ k d within. subst (λ (xs : List A). All P xs) is holds (suc k) d (omega (arith, within))
