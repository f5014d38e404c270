-- A line of a grammar: what it takes, and what the lines behind it make of the rest.
use Rattle.std.proofs.Common.{◌≡◌, ℕ, List, [], ◌∷◌, Option, Some, None, Result, Ok, Err, refl, ap, ◌∙◌}
use Rattle.es_tree.specs.declared.tree.Tree.{Tree}
use Rattle.es_tree.specs.declared.tree.Named.{Named}
use Rattle.es_grammar.specs.Reading.{below}
use Rattle.es_grammar.specs.Reading.{◌>>=◌ as ◌then◌}
use Rattle.es_grammar.specs.Members.{members_of, next_of, inside, each_of, only_of}
use Rattle.es_grammar.specs.Grammar.{◌>>=◌, object, no_more, only_member}

abbrev pub part : {A : Type 0} → List ℕ → (Tree → Result A (List ℕ)) → Option Tree × List (Named Tree) → Result (Option A × List (Named Tree)) (List ℕ)
part name form found = inside name form found.0 then λ value. Ok (value, found.1)

abbrev pub on_both : {A B : Type 0} → (Option A → List (Named Tree) → Result B (List ℕ)) → Option A × List (Named Tree) → Result B (List ℕ)
on_both c x = c x.0 x.1

-- what a line, with those behind it, makes of the member that it finds
abbrev pub taken : {A B : Type 0} → List ℕ → (Tree → Result A (List ℕ)) → (Option A → List (Named Tree) → Result B (List ℕ)) → Result (Option Tree × List (Named Tree)) (List ℕ) → Result B (List ℕ)
taken name form c r = (r then part name form) then on_both c

abbrev pub some : {A : Type 0} → A → Result (Option A) (List ℕ)
some x = Ok (Some x)

abbrev pub with_rest : {A : Type 0} → List (Named Tree) → Option A → Result (Option A × List (Named Tree)) (List ℕ)
with_rest rest value = Ok (value, rest)

-- the same at a member whose value is read
abbrev pub taken_at : {A B : Type 0} → List ℕ → List (Named Tree) → (Option A → List (Named Tree) → Result B (List ℕ)) → Result A (List ℕ) → Result B (List ℕ)
taken_at name rest c r = ((below name r then some) then with_rest rest) then on_both c

-- ---- a reading that gave a value

-- a step and what came behind it
pub record Both {A B : Type 0} (r : Result A (List ℕ)) (f : A → Result B (List ℕ)) (y : B) : Type 0 where
  pub value : A
  pub first : r ≡ Ok value
  pub later : f value ≡ Ok y

pub then_ok : {A B : Type 0} (r : Result A (List ℕ)) (f : A → Result B (List ℕ)) (y : B) → (r then f) ≡ Ok y → Both r f y
then_ok (Ok x) f y e = record { value = x; first = refl; later = e }
then_ok (Err p) f y e = cc e

pub below_ok : {A : Type 0} (name : List ℕ) (r : Result A (List ℕ)) (x : A) → below name r ≡ Ok x → r ≡ Ok x
below_ok name (Ok v) x e = e
below_ok name (Err p) x e = cc e

abbrev pub ok : {A : Type 0} → A → Result A (List ℕ)
ok x = Ok x

pub ok_same : {A : Type 0} (x y : A) → ok x ≡ ok y → x ≡ y
ok_same x y e = cc e

pub pair_same : {A B : Type 0} (x y : A) (u v : B) → ok {A = A × B} (x, u) ≡ ok {A = A × B} (y, v) → x ≡ y
pair_same {A} {B} x y u v e = ap (λ (z : A × B). z.0) (ok_same {A = A × B} (x, u) (y, v) e)

-- where a member's value came from
abbrev pub Came : {A : Type 0} → (Tree → Result A (List ℕ)) → Option A → Type 0
Came form None = Unit {0}
Came form (Some x) = (t : Tree) × (form t ≡ Ok x)

-- what a line took, and what it left to the lines behind it
pub record Took {A B : Type 0} (form : Tree → Result A (List ℕ)) (c : Option A → List (Named Tree) → Result B (List ℕ)) (y : B) : Type 0 where
  pub value : Option A
  pub rest : List (Named Tree)
  pub came : Came form value
  pub later : c value rest ≡ Ok y

module _ {A B : Type 0} (name : List ℕ) (form : Tree → Result A (List ℕ)) (c : Option A → List (Named Tree) → Result B (List ℕ)) (y : B) where
  at_ok : (t : Tree) (rest : List (Named Tree)) (r : Result A (List ℕ)) → form t ≡ r → taken_at name rest c r ≡ Ok y → Took form c y
  at_ok t rest (Ok x) i e = record { value = Some x; rest = rest; came = (t, i); later = e }
  at_ok t rest (Err p) i e = cc e

  found_ok : (found : Option Tree) (rest : List (Named Tree)) → taken name form c (Ok (found, rest)) ≡ Ok y → Took form c y
  found_ok None rest e = record { value = None; rest = rest; came = tt; later = e }
  found_ok (Some t) rest e = at_ok t rest (form t) refl e

  taken_ok : (r : Result (Option Tree × List (Named Tree)) (List ℕ)) → taken name form c r ≡ Ok y → Took form c y
  taken_ok (Ok found) e = found_ok found.0 found.1 e
  taken_ok (Err p) e = cc e

  pub line_ok : (ms : List (Named Tree)) → taken name form c (next_of name ms) ≡ Ok y → Took form c y
  line_ok ms e = taken_ok (next_of name ms) e

-- the members of an object that was read
pub record Members {A : Type 0} (grammar : List (Named Tree) → Result (A × List (Named Tree)) (List ℕ)) (x : A) : Type 0 where
  pub members : List (Named Tree)
  pub rest : List (Named Tree)
  pub are : grammar members ≡ Ok (x, rest)

pub object_ok : {A : Type 0} (grammar : List (Named Tree) → Result (A × List (Named Tree)) (List ℕ)) (t : Tree) (x : A) → object grammar t ≡ Ok x → Members grammar x
object_ok {A} grammar t x e =
    let a = then_ok (members_of t) (λ ms. grammar ms then λ y. Ok y.0) x e in
    let b = then_ok (grammar a.value) (λ (y : A × List (Named Tree)). Ok y.0) x a.later in
    record { members = a.value; rest = b.value.1; are = b.first ∙ ap (λ (z : A). ok {A = A × List (Named Tree)} (z, b.value.1)) (ok_same b.value.0 x b.later) }

-- ---- the one member of an object

pub record One {A : Type 0} (form : List ℕ → Tree → Result A (List ℕ)) (x : A) : Type 0 where
  pub name : List ℕ
  pub tree : Tree
  pub is : form name tree ≡ Ok x

module _ {A : Type 0} (form : List ℕ → Tree → Result A (List ℕ)) (x : A) where
  first_ok : (ms : List (Named Tree)) (xs : List A) → each_of form ms ≡ Ok (x ∷ xs) → One form x
  first_ok [] xs e = cc e
  first_ok (m ∷ ms) xs e =
      let a = then_ok (below m.name (form m.name m.value)) (λ y. each_of form ms then λ ys. Ok (y ∷ ys)) (x ∷ xs) e in
      let b = then_ok (each_of form ms) (λ ys. Ok (a.value ∷ ys)) (x ∷ xs) a.later in
      let same : a.value ≡ x = cc b.later in
      record { name = m.name; tree = m.value; is = below_ok m.name (form m.name m.value) x (a.first ∙ ap ok same) }

  single_ok : (ms : List (Named Tree)) (xs : List A) → each_of form ms ≡ Ok xs → only_of xs ≡ Ok x → One form x
  single_ok ms [] e o = cc o
  single_ok ms (y ∷ []) e o = first_ok ms [] (e ∙ ap (λ (z : A). ok (z ∷ [])) (ok_same y x o))
  single_ok ms (y ∷ z ∷ ys) e o = cc o

  pub only_ok : (t : Tree) → object (only_member form) t ≡ Ok x → One form x
  only_ok t e =
      let o = object_ok (only_member form) t x e in
      let a = then_ok {B = A × List (Named Tree)} (each_of form o.members) (λ xs. only_of xs then λ y. Ok (y, [])) (x, o.rest) o.are in
      let b = then_ok {B = A × List (Named Tree)} (only_of a.value) (λ y. Ok (y, [])) (x, o.rest) a.later in
      let same : b.value ≡ x = pair_same b.value x [] o.rest b.later in
      single_ok o.members a.value a.first (b.first ∙ ap ok same)

-- ---- the end

-- nothing is left, and what is meant
pub ends_ok : {A : Type 0} (c : List (Named Tree) → Result (A × List (Named Tree)) (List ℕ)) (rest : List (Named Tree)) (y : A × List (Named Tree)) → (no_more >>= λ end. c) rest ≡ Ok y → c [] ≡ Ok y
ends_ok c [] y e = e
ends_ok c (m ∷ ms) y e = cc e
