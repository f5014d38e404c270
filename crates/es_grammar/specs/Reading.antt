-- A value of a grammar, or the place of the first fault.
use Rattle.std.specs.Prelude.{◌≡◌, ℕ, ◌^◌, ◌-◌, List, [], ◌∷◌, ◌++◌, Option, Some, None, Result, Ok, Err, Bool, true, false, if◌then◌else◌, nat_eq}
use Rattle.es_tree.specs.declared.tree.Tree.{Tree}
use Rattle.es_tree.specs.declared.tree.Tree as tree
use Rattle.es_tree.specs.declared.fault.BodyFault.{BodyFault}
use Rattle.es_tree.specs.declared.fault.BodyFault.TheVariants.{Bad, NoMemory}

-- What reading a value gives. A place has a dot and a name or number for each step inside; the value's own place is empty.
abbrev pub Reading : Type 0 → Type 0
Reading A = Result A (List ℕ)

infixl 10 ◌>>=◌
abbrev pub ◌>>=◌ : {A B : Type 0} → Result A (List ℕ) → (A → Result B (List ℕ)) → Result B (List ℕ)
(Ok x) >>= f = f x
(Err p) >>= f = Err p

-- the place, seen from the value that holds this one under the name
abbrev pub place_below : List ℕ → List ℕ → List ℕ
place_below name place = 46 ∷ (name ++ place)

-- what was read at the name, seen from the value that holds it
abbrev pub below : {A : Type 0} → List ℕ → Result A (List ℕ) → Result A (List ℕ)
below name (Ok x) = Ok x
below name (Err p) = Err (place_below name p)

-- what is wanted here, and a fault where it is absent
abbrev pub wanted : {A : Type 0} → Option A → Result A (List ℕ)
wanted None = Err []
wanted (Some x) = Ok x

-- the value, if a rule over several members holds
abbrev pub if_holds : {A : Type 0} → Bool → A → Result A (List ℕ)
if_holds true x = Ok x
if_holds false x = Err []

-- an absent list is empty
abbrev pub or_empty : {A : Type 0} → Option (List A) → List A
or_empty None = []
or_empty (Some xs) = xs

-- an absent object has no members
abbrev pub or_no_members : Option Tree → Tree
or_no_members None = tree.Object []
or_no_members (Some t) = t

-- a place without the dot at its front
abbrev pub without_dot : List ℕ → List ℕ
without_dot [] = []
without_dot (b ∷ bs) = if nat_eq b 46 then bs else b ∷ bs

-- the place of a step inside, from the place of the value that was read; the outermost value's own place is empty
abbrev pub place_in : List ℕ → List ℕ → List ℕ
place_in [] inside = without_dot inside
place_in (b ∷ bs) inside = (b ∷ bs) ++ inside

-- what was read of a value that stands at the place
abbrev pub placed : {A : Type 0} → List ℕ → Result A (List ℕ) → Result A (List ℕ)
placed place (Ok x) = Ok x
placed place (Err inside) = Err (place_in place inside)

-- The levels that a grammar that holds itself counts down from: more than any tree in memory has.
unfoldable pub most_levels : ℕ
most_levels = 2 ^ 64 - 1

-- ---- for clauses

-- the fault stands at the place, unless memory was refused
abbrev pub IsAt : BodyFault → List ℕ → Type 0
IsAt (Bad found) place = found ≡ place
IsAt NoMemory place = Unit {0}

-- the fault is the reading's, unless memory was refused
abbrev pub Fails : {A : Type 0} → BodyFault → Result A (List ℕ) → Type 0
Fails (Bad place) reading = reading ≡ Err place
Fails NoMemory reading = Unit {0}

-- what was found is what the reading gives, unless memory was refused
abbrev pub Gives : {A : Type 0} → Result A BodyFault → Result A (List ℕ) → Type 0
Gives (Ok x) reading = reading ≡ Ok x
Gives (Err fault) reading = Fails fault reading

-- the same, of what was found as seen by `view`
abbrev pub GivesBy : {A B : Type 0} → (A → B) → Result A BodyFault → Result B (List ℕ) → Type 0
GivesBy view (Ok x) reading = reading ≡ Ok (view x)
GivesBy view (Err fault) reading = Fails fault reading
