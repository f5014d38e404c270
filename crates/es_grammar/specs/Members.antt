-- The members of an object, in the order of their names' bytes.
use Rattle.std.specs.Prelude.{ℕ, List, [], ◌∷◌, Option, Some, None, Result, Ok, Err, Bool, if◌then◌else◌}
use Rattle.std.specs.Ordering.{nat_cmp}
use Rattle.std.specs.Cmp.Lexicographic.{slice_cmp}
use Rattle.std.specs.declared.cmp.Ordering.{Ordering}
use Rattle.std.specs.declared.cmp.Ordering.TheVariants.{Less, Equal, Greater}
use Rattle.es_tree.specs.declared.tree.Tree.{Tree, out-Tree}
use Rattle.es_tree.specs.declared.tree.Tree.TheOpen.{Tree-F}
use Rattle.es_tree.specs.declared.tree.Named.{Named}
use Rattle.es_grammar.specs.Reading.{◌>>=◌, below, place_below}

abbrev pub members_in : Tree-F Tree → Result (List (Named Tree)) (List ℕ)
members_in Tree-F.Null = Err []
members_in (Tree-F.Bool b) = Err []
members_in (Tree-F.Int z) = Err []
members_in (Tree-F.Text s) = Err []
members_in (Tree-F.List ts) = Err []
members_in (Tree-F.Object ms) = Ok ms

-- the members of an object
abbrev pub members_of : Tree → Result (List (Named Tree)) (List ℕ)
members_of t = members_in (out-Tree t)

abbrev pub next_by : Ordering → Named Tree → List (Named Tree) → Result (Option Tree × List (Named Tree)) (List ℕ)
next_by Less m ms = Err (place_below m.name [])
next_by Equal m ms = Ok (Some m.value, ms)
next_by Greater m ms = Ok (None, m ∷ ms)

-- The member of this name, if it is there, and those after it. A name before it isn't in the grammar.
abbrev pub next_of : List ℕ → List (Named Tree) → Result (Option Tree × List (Named Tree)) (List ℕ)
next_of name [] = Ok (None, [])
next_of name (m ∷ ms) = next_by (slice_cmp nat_cmp m.name name) m ms

-- a value at the name, of the form
abbrev pub inside : {A : Type 0} → List ℕ → (Tree → Result A (List ℕ)) → Option Tree → Result (Option A) (List ℕ)
inside name form None = Ok None
inside name form (Some t) = below name (form t) >>= λ x. Ok (Some x)

-- the member of this name with its value of the form, if it is there, and those after it
abbrev pub optional_of : {A : Type 0} → List ℕ → (Tree → Result A (List ℕ)) → List (Named Tree) → Result (Option A × List (Named Tree)) (List ℕ)
optional_of name form members = do
  found ← next_of name members
  value ← inside name form found.0
  Ok (value, found.1)

-- no member is left
abbrev pub ends_of : List (Named Tree) → Result (Unit {0}) (List ℕ)
ends_of [] = Ok tt
ends_of (m ∷ ms) = Err (place_below m.name [])

-- each member, by its name and its value
abbrev pub each_of : {A : Type 0} → (List ℕ → Tree → Result A (List ℕ)) → List (Named Tree) → Result (List A) (List ℕ)
each_of form [] = Ok []
each_of form (m ∷ ms) = do
  x ← below m.name (form m.name m.value)
  xs ← each_of form ms
  Ok (x ∷ xs)

-- a value under its name, where the name is permitted
abbrev pub named : {A : Type 0} → (List ℕ → Bool) → (Tree → Result A (List ℕ)) → List ℕ → Tree → Result (Named A) (List ℕ)
named permits form name t = if permits name then (form t >>= λ x. Ok (record { name = name; value = x })) else Err []

-- an object from permitted names to values of the form
abbrev pub map_form : {A : Type 0} → (List ℕ → Bool) → (Tree → Result A (List ℕ)) → Tree → Result (List (Named A)) (List ℕ)
map_form permits form t = members_of t >>= each_of (named permits form)

-- exactly one
abbrev pub only_of : {A : Type 0} → List A → Result A (List ℕ)
only_of [] = Err []
only_of (x ∷ []) = Ok x
only_of (x ∷ y ∷ xs) = Err []
