-- What a connection answers.
use Rattle.std.specs.Prelude.{◌≡◌, ◌≢◌, ℕ, List, [], ◌++◌, ⊤}
use Rattle.es_edge.specs.Moves.{Input, Gives, HasEnded}
use Rattle.es_edge.specs.Causes.{Rose}
use Rattle.es_wire.specs.declared.conn.Next.{Next}
use Rattle.es_wire.specs.declared.conn.Next.TheVariants.{Request, Ended, Truncated, BadHead, ReadFault, NoMemory}
use Rattle.es_wire.specs.Requests.{Message, ReadsMessage, HasNoMessage, MayBecomeMessage, Refuses, raw_of}

-- the answer to these bytes, of which rest is kept, with its cause
abbrev pub IsAnswerTo : List ℕ → List ℕ → Input → Input → Next → Type 0
IsAnswerTo bytes rest old new (Request raw) = (m : Message) × ReadsMessage bytes m rest × (raw ≡ raw_of m)
IsAnswerTo bytes rest old new Ended = (bytes ≡ []) × HasEnded old new
IsAnswerTo bytes rest old new Truncated = (bytes ≢ []) × HasNoMessage bytes × HasEnded old new
IsAnswerTo bytes rest old new BadHead = HasNoMessage bytes × ((status : ℕ) × Refuses bytes status)
IsAnswerTo bytes rest old new ReadFault = HasNoMessage bytes × Rose old.faults new.faults
IsAnswerTo bytes rest old new NoMemory = ⊤

-- the source's faults are as before, but where the answer is its fault
abbrev pub IsCalm : Next → Input → Input → Type 0
IsCalm (Request raw) old new = new.faults ≡ old.faults
IsCalm Ended old new = new.faults ≡ old.faults
IsCalm Truncated old new = new.faults ≡ old.faults
IsCalm BadHead old new = new.faults ≡ old.faults
IsCalm ReadFault old new = ⊤
IsCalm NoMemory old new = new.faults ≡ old.faults

-- the source's ends are as before, but where the answer is its end
abbrev pub IsUnended : Next → Input → Input → Type 0
IsUnended (Request raw) old new = new.ends ≡ old.ends
IsUnended Ended old new = ⊤
IsUnended Truncated old new = ⊤
IsUnended BadHead old new = new.ends ≡ old.ends
IsUnended ReadFault old new = new.ends ≡ old.ends
IsUnended NoMemory old new = new.ends ≡ old.ends

-- where the source ended inside a request, or failed, the bytes might have become a request
abbrev pub IsMendable : Next → List ℕ → Type 0
IsMendable (Request raw) bytes = ⊤
IsMendable Ended bytes = ⊤
IsMendable Truncated bytes = MayBecomeMessage bytes
IsMendable BadHead bytes = ⊤
IsMendable ReadFault bytes = MayBecomeMessage bytes
IsMendable NoMemory bytes = ⊤

-- what was pending and what the source gave are answered; where what was pending holds a whole request, nothing is read
pub record NextOf (pending rest : List ℕ) (old new : Input) (next : Next) : Type 0 where
  pub read : List ℕ
  pub given : Gives old new read
  pub answers : IsAnswerTo (pending ++ read) rest old new next
  pub calm : IsCalm next old new
  pub unread : (m : Message) (after : List ℕ) → ReadsMessage pending m after → read ≡ []
  pub unended : IsUnended next old new
  pub mendable : IsMendable next (pending ++ read)
