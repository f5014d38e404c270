-- The dot at the front of a place.
use Rattle.std.proofs.Common.{◌≡◌, ◌≢◌, ℕ, List, [], ◌∷◌, Bool, true, false, nat_eq, refl, sym, ap, if◌then◌else◌}
use Rattle.std.proofs.lemmas.Bool.{eqb-true}
use Rattle.es_grammar.specs.Reading.{without_dot}

kept_where : (b : ℕ) (bs : List ℕ) (is : Bool) → is ≢ true → (if is then bs else b ∷ bs) ≡ b ∷ bs
kept_where b bs true n = absurd (n refl)
kept_where b bs false n = refl

-- what doesn't begin with a dot stays
pub undotted_same : (bs : List ℕ) → ((rest : List ℕ) → bs ≢ 46 ∷ rest) → bs ≡ without_dot bs
undotted_same [] n = refl
undotted_same (b ∷ bs) n = sym (kept_where b bs (nat_eq b 46) (λ e. n bs (ap (λ c. c ∷ bs) (eqb-true b 46 e))))
