-- Texts that begin with a slash.
use Rattle.std.proofs.Common.{◌≡◌, ℕ, ◌==◌, true, List, [], ◌∷◌, sym, ap, subst, refl, arith, one-add, codes}
use Rattle.std.specs.Prelude.{nat_eq}
use Rattle.std.specs.List.{starts_with, before_first}
use Rattle.std.proofs.lemmas.Bool.Decides.{nat_tests}

-- the slash and the rest
pub behind_slash : (text : List ℕ) → starts_with nat_eq text (codes "/") ≡ true → (rest : List ℕ) × (text ≡ 47 ∷ rest)
behind_slash [] e = cc
behind_slash (b ∷ rest) e = let is : b ≡ 47 = grind (arith, nat_tests) in (rest, ap (λ (x : ℕ). x ∷ rest) is)

begins : (rest : List ℕ) → starts_with nat_eq (before_first (λ b. b == 63) (47 ∷ rest)) (codes "/") ≡ true
begins rest = rw one-add refl

-- what stands before a question mark begins so too
pub path_begins : (text : List ℕ) → starts_with nat_eq text (codes "/") ≡ true → starts_with nat_eq (before_first (λ b. b == 63) text) (codes "/") ≡ true
path_begins [] e = cc
path_begins (b ∷ rest) e =
    let is : b ≡ 47 = grind (arith, nat_tests) in
    subst (λ (x : ℕ). starts_with nat_eq (before_first (λ b. b == 63) (x ∷ rest)) (codes "/") ≡ true) (sym is) (begins rest)
