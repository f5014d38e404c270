-- What the calls of a listener move.
use Rattle.std.specs.Prelude.{◌≡◌, ⊤, ℕ, Bool, true, List, Option, IfSome}
use Rattle.es_edge.specs.Causes.{Rose}
use Rattle.es_edge.specs.Calls.{next_call}
use Rattle.es_link.specs.declared.listener.Bound.{Bound}
use Rattle.es_link.specs.declared.listener.Bound.TheVariants as bound
use Rattle.es_link.specs.declared.listener.Accepted.{Accepted}
use Rattle.es_link.specs.declared.listener.Accepted.TheVariants as accepted

-- a listener as contracts see it: whether it is bound, and to which address, where it tells that; how many links it gave; and its counts
pub record Listening : Type 0 where
  pub is_bound : Bool
  pub address : Option (List ℕ)
  pub links : ℕ
  pub faults : ℕ
  pub ends : ℕ

-- no count but that of the faults moves, and what it is bound to stays
abbrev pub Fails : Listening → Listening → Type 0
Fails old new = (new.is_bound ≡ old.is_bound) × (new.address ≡ old.address) × (new.links ≡ old.links) × Rose old.faults new.faults × (new.ends ≡ old.ends)

-- it was bound to this address; or the binding failed, which left all but the count of faults
abbrev pub Binds : Listening → Listening → List ℕ → Bound → Type 0
Binds old new stated bound.Ok =
    (new.is_bound ≡ true) × IfSome new.address (λ address. address ≡ stated) × (new.links ≡ old.links) × (new.faults ≡ old.faults) × (new.ends ≡ old.ends)
Binds old new stated bound.Failed = Fails old new

-- a link was given; no more links come; or accepting failed
abbrev pub Accepts : {L : Type 0} → Listening → Listening → Accepted L → Type 0
Accepts old new (accepted.Link link) =
    (new.is_bound ≡ old.is_bound) × (new.address ≡ old.address) × (new.links ≡ next_call old.links) × (new.faults ≡ old.faults) × (new.ends ≡ old.ends)
Accepts old new accepted.End =
    (new.is_bound ≡ old.is_bound) × (new.address ≡ old.address) × (new.links ≡ old.links) × (new.faults ≡ old.faults) × Rose old.ends new.ends
Accepts old new accepted.Failed = Fails old new

-- P of the link, if one was given
abbrev pub IfLink : {L : Type 0} → Accepted L → (L → Type 0) → Type 0
IfLink (accepted.Link link) P = P link
IfLink accepted.End P = ⊤
IfLink accepted.Failed P = ⊤
