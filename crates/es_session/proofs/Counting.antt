-- The places of a connection that is alone are counted.
use Rattle.std.proofs.Common.{◌≡◌, ℕ, ◌+◌, ◌<◌, ◌≤◌, Bool, true, false, List, [], ◌∷◌, ◌++◌, length, Option, IsTrue, arith, refl, sym, ap, subst, ◌∙◌, cond}
use Rattle.es_wire.specs.declared.receipt.Receipt.{Receipt}
use Rattle.es_wire.specs.declared.receipt.LinkEnd.{LinkEnd}
use Rattle.es_session.specs.Node.{Node}
use Rattle.es_session.specs.Legal.{Ascends, change_of, changes, joined, HasCountedPlaces}
use Rattle.es_session.specs.State.{State}
use Rattle.es_session.specs.Session.{Ends, IsAlone}

-- a change comes above what was before it
step_least : (from place : ℕ) (b : Bool) → from ≤ place → (IsTrue b → from < place) → from + cond b 1 0 ≤ place
step_least from place true le up = let lt = up refl in omega arith
step_least from place false le up = omega arith

least_end : (from to : ℕ) (rs : List Receipt) → Ascends from to rs → from + changes rs ≤ to
least_end from to [] up = omega arith
least_end from to (r ∷ rs) up =
    let step = step_least from r.place r.changed up.0 up.1 in
    let later = least_end r.place to rs up.2 in
    omega arith

-- where places rise by no more than the changes, each is that of the receipt before it, or one more at a change
pub places_count : (from to : ℕ) (rs : List Receipt) → Ascends from to rs → to ≡ from + changes rs → HasCountedPlaces from rs
places_count from to [] up e = tt
places_count from to (r ∷ rs) up e =
    let step = step_least from r.place r.changed up.0 up.1 in
    let later = least_end r.place to rs up.2 in
    (omega arith, places_count r.place to rs up.2 (omega arith))

-- a connection that is alone from its opening on has counted places
pub ends_count : {N : Node} {caller : ℕ} {clock : Option ℕ} {a b : State N.Entry} {ended : LinkEnd} → Ends N caller clock a b ended
    → a.receipts ≡ [] → IsAlone a.journal b.journal [] b.receipts → HasCountedPlaces (length a.journal) b.receipts
ends_count {N} {caller} {clock} {a} {b} {ended} ends none alone =
    let all : b.receipts ≡ joined ends.groups = ends.answers.receipts ∙ ap (λ (rs : List Receipt). rs ++ joined ends.groups) none in
    let up : Ascends (length a.journal) (length b.journal) b.receipts = subst (Ascends (length a.journal) (length b.journal)) (sym all) ends.answers.ascends in
    places_count (length a.journal) (length b.journal) b.receipts up (omega arith)
