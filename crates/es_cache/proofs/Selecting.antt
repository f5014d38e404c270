-- Items for which a test is true, gathered one after another.
use Rattle.std.proofs.Common.{◌≡◌, suc, Bool, true, false, cond, List, [], ◌∷◌, ◌++◌, refl, ap, append_assoc}
use Rattle.std.specs.List.Retain.{IsFiltered}

module _ {X P : Type 0} (R : P → X → Bool → P → Type 0) (p : P) where
  -- one item more at the front, for which the test answered and stayed the same
  pub IsFiltered-cons : (x : X) (answer : Bool) (xs ys : List X) → R p x answer p → IsFiltered R p xs ys → IsFiltered R p (x ∷ xs) (cond answer (x ∷ ys) ys)
  IsFiltered-cons x true xs ys told found = (true ∷ found.0, found.1, ap suc found.2, (p, told, found.3), ap (λ l. x ∷ l) found.4)
  IsFiltered-cons x false xs ys told found = (false ∷ found.0, found.1, ap suc found.2, (p, told, found.3), found.4)

  -- of no items it finds none
  pub IsFiltered-nil : IsFiltered R p [] []
  IsFiltered-nil = ([], p, refl, refl, refl)

  module _ (all done : List X) (x : X) (left later : List X) (is : left ≡ x ∷ later) (so_far : (rest : List X) → IsFiltered R p left rest → IsFiltered R p all (done ++ rest)) where
    -- a step of a loop that keeps what the test is true for, where it is true
    pub kept_one : (more : List X) → more ≡ done ++ x ∷ [] → R p x true p → (rest : List X) → IsFiltered R p later rest → IsFiltered R p all (more ++ rest)
    kept_one more gains told rest found = rw (gains, append_assoc) (so_far (x ∷ rest) (rw is (IsFiltered-cons x true later rest told found)))

    -- and where it is false
    pub passed_one : R p x false p → (rest : List X) → IsFiltered R p later rest → IsFiltered R p all (done ++ rest)
    passed_one told rest found = so_far rest (rw is (IsFiltered-cons x false later rest told found))
