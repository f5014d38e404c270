-- Grammars of objects: lines in the byte order of the members' names. Each takes what it names, and leaves the rest.
use Rattle.std.specs.Prelude.{ℕ, List, [], Option, Result, Ok, Bool}
use Rattle.es_tree.specs.declared.tree.Tree.{Tree}
use Rattle.es_tree.specs.declared.tree.Named.{Named}
use Rattle.es_grammar.specs.Reading.{wanted, if_holds}
use Rattle.es_grammar.specs.Reading.{◌>>=◌ as ◌then◌}
use Rattle.es_grammar.specs.Members.{members_of, optional_of, ends_of, each_of, only_of}

infixl 10 ◌>>=◌
abbrev pub ◌>>=◌ : {A B : Type 0} → (List (Named Tree) → Result (A × List (Named Tree)) (List ℕ)) → (A → List (Named Tree) → Result (B × List (Named Tree)) (List ℕ)) → List (Named Tree) → Result (B × List (Named Tree)) (List ℕ)
(part >>= f) ms = part ms then λ x. f x.0 x.1

-- the member of this name with its value of the form, if it is there
abbrev pub member : {A : Type 0} → List ℕ → (Tree → Result A (List ℕ)) → List (Named Tree) → Result (Option A × List (Named Tree)) (List ℕ)
member = optional_of

-- there is no other member
abbrev pub no_more : List (Named Tree) → Result (Unit {0} × List (Named Tree)) (List ℕ)
no_more ms = ends_of ms then λ x. Ok (x, ms)

-- a member that has to be there
abbrev pub required : {A : Type 0} → Option A → List (Named Tree) → Result (A × List (Named Tree)) (List ℕ)
required found ms = wanted found then λ x. Ok (x, ms)

-- exactly one member, read by its name
abbrev pub only_member : {A : Type 0} → (List ℕ → Tree → Result A (List ℕ)) → List (Named Tree) → Result (A × List (Named Tree)) (List ℕ)
only_member form ms = each_of form ms then λ xs. only_of xs then λ x. Ok (x, [])

-- what the object means
abbrev pub means : {A : Type 0} → A → List (Named Tree) → Result (A × List (Named Tree)) (List ℕ)
means x ms = Ok (x, ms)

-- what the object means, if a rule over its members holds
abbrev pub means_where : {A : Type 0} → (A → Bool) → A → List (Named Tree) → Result (A × List (Named Tree)) (List ℕ)
means_where rule x ms = if_holds (rule x) x then λ y. Ok (y, ms)

-- an object of this grammar
abbrev pub object : {A : Type 0} → (List (Named Tree) → Result (A × List (Named Tree)) (List ℕ)) → Tree → Result A (List ℕ)
object grammar t = members_of t then λ ms. grammar ms then λ x. Ok x.0
