-- Objects with exactly one member.
use Rattle.std.proofs.Common.{◌≡◌, ℕ, List, [], ◌∷◌, Result, Ok, refl, ap, sym, subst, ◌∙◌}
use Rattle.es_tree.specs.declared.tree.Tree.{Tree}
use Rattle.es_tree.specs.declared.tree.Named.{Named}
use Rattle.es_grammar.specs.Reading.{below}
use Rattle.es_grammar.specs.Reading.{◌>>=◌ as ◌then◌}
use Rattle.es_grammar.specs.Members.{members_of, each_of, only_of}
use Rattle.es_grammar.specs.Grammar.{object, only_member}
use Rattle.es_query.proofs.Lines.{then_ok, below_ok, ok, ok_same}

-- the one member of an object, and what it was read as
pub record Only {A : Type 0} (form : List ℕ → Tree → Result A (List ℕ)) (t : Tree) (x : A) : Type 0 where
  pub member : Named Tree
  pub members : members_of t ≡ Ok (member ∷ [])
  pub is : form member.name member.value ≡ Ok x

module _ {A : Type 0} (form : List ℕ → Tree → Result A (List ℕ)) (t : Tree) (x : A) where
  -- what is read of no members is no one thing
  none_given : (xs : List A) → ok xs ≡ ok [] → only_of xs ≡ Ok x → Only form t x
  none_given [] e o = cc o
  none_given (y ∷ ys) e o = cc e

  -- nor is what is read of two or more
  more_given : (y z : A) (zs ys xs : List A) → ok (z ∷ zs) ≡ ok ys → ok (y ∷ ys) ≡ ok xs → only_of xs ≡ Ok x → Only form t x
  more_given y z zs [] xs first e o = cc first
  more_given y z zs (v ∷ vs) [] first e o = cc e
  more_given y z zs (v ∷ vs) (u ∷ []) first e o = cc e
  more_given y z zs (v ∷ vs) (u ∷ w ∷ ws) first e o = cc o

  each_given : (ms : List (Named Tree)) (xs : List A) → members_of t ≡ Ok ms → each_of form ms ≡ Ok xs → only_of xs ≡ Ok x → Only form t x
  each_given [] xs are e o = none_given xs (sym e) o
  each_given (m ∷ []) xs are e o =
      let a = then_ok (below m.name (form m.name m.value)) (λ y. each_of form [] then λ ys. Ok (y ∷ ys)) xs e in
      let one : only_of (a.value ∷ []) ≡ Ok x = subst (λ (ys : List A). only_of ys ≡ Ok x) (sym (ok_same (a.value ∷ []) xs a.later)) o in
      record { member = m; members = are; is = below_ok m.name (form m.name m.value) x (a.first ∙ one) }
  each_given (m ∷ n ∷ ms) xs are e o =
      let a = then_ok (below m.name (form m.name m.value)) (λ y. each_of form (n ∷ ms) then λ ys. Ok (y ∷ ys)) xs e in
      let b = then_ok (each_of form (n ∷ ms)) (λ ys. Ok (a.value ∷ ys)) xs a.later in
      let c = then_ok (below n.name (form n.name n.value)) (λ y. each_of form ms then λ ys. Ok (y ∷ ys)) b.value b.first in
      let d = then_ok (each_of form ms) (λ ys. Ok (c.value ∷ ys)) b.value c.later in
      more_given a.value c.value d.value b.value xs d.later b.later o

  pub only_given : object (only_member form) t ≡ Ok x → Only form t x
  only_given e =
      let a = then_ok (members_of t) (λ ms. only_member form ms then λ y. Ok y.0) x e in
      let b = then_ok (only_member form a.value) (λ (y : A × List (Named Tree)). Ok y.0) x a.later in
      let c = then_ok {B = A × List (Named Tree)} (each_of form a.value) (λ xs. only_of xs then λ y. Ok (y, [])) b.value b.first in
      let d = then_ok {B = A × List (Named Tree)} (only_of c.value) (λ y. Ok (y, [])) b.value c.later in
      let same : d.value ≡ x = ap (λ (pair : A × List (Named Tree)). pair.0) (ok_same (d.value, []) b.value d.later) ∙ ok_same b.value.0 x b.later in
      each_given a.value c.value a.first c.first (d.first ∙ ap ok same)

  pub only_from : Only form t x → object (only_member form) t ≡ Ok x
  only_from o = rw (o.members, o.is) refl
