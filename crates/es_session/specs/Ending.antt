-- How a connection ends: what is written behind the responses, and why.
use Rattle.std.specs.Prelude.{◌≡◌, ◌≢◌, ℕ, ◌<◌, ◌≤◌, ◌⊎◌, Bool, true, false, List, [], ◌∷◌, ◌++◌, length, ⊤}
use Rattle.es_edge.specs.declared.chance.Draw.{Draw}
use Rattle.es_edge.specs.Moves.{Input, Output, HasEnded}
use Rattle.es_edge.specs.Causes.{Rose}
use Rattle.es_edge.specs.declared.sending.Sent.{Sent}
use Rattle.es_edge.specs.declared.sending.Sent.TheVariants as sent
use Rattle.es_response.specs.Reply.{fixed_response}
use Rattle.es_wire.specs.Requests.{HasNoMessage, MayBecomeMessage, Refuses}
use Rattle.es_wire.specs.declared.receipt.LinkEnd.{LinkEnd}
use Rattle.es_wire.specs.declared.receipt.LinkEnd.TheVariants as end
use Rattle.es_session.specs.Legal.{joined}

-- as many requests are answered on a connection at the most
abbrev pub request_limit : ℕ
request_limit = 1000000

-- the end that a refusal with this status makes, and the status that its response shows: all are taken for a bad head
abbrev pub end_of : ℕ → LinkEnd
end_of status = end.BadHead

abbrev pub shown_of : ℕ → ℕ
shown_of status = 400

-- every text but the last is written whole, and of the last a part at its front that is not all of it
pub record IsCut (texts : List (List ℕ)) (written : List ℕ) : Type 0 where
  pub whole : List (List ℕ)
  pub part : List ℕ
  pub left : List ℕ
  pub short : left ≢ []
  pub texts_are : texts ≡ whole ++ (part ++ left) ∷ []
  pub written_is : written ≡ joined whole ++ part

-- the connection could have gone on: no request asked for the close, and fewer were answered than may be
abbrev pub IsGoing : Bool → ℕ → Type 0
IsGoing closed count = (closed ≡ false) × (count < request_limit)

-- the bytes can't become a request that is taken, with the status of the refusal
pub record IsRefused (rest : List ℕ) (status : ℕ) : Type 0 where
  pub none : HasNoMessage rest
  pub refusal : Refuses rest status

-- what may be due behind the responses, with the bytes that belong to no answered request
pub data IsLastWord (closed : Bool) (count : ℕ) (rest : List ℕ) : List (List ℕ) → Type 0 where
  -- nothing
  silence : IsLastWord closed count rest []
  -- the fixed response to bytes that can't become a request that is taken
  refusal : {status : ℕ} → IsGoing closed count → IsRefused rest status → IsLastWord closed count rest (fixed_response (shown_of status) ∷ [])
  -- the fixed response to want of memory
  no_memory : IsGoing closed count → IsLastWord closed count rest (fixed_response 503 ∷ [])

-- all that was due was written, or at a write fault a part of it
abbrev pub HasWritten : Bool → ℕ → List (List ℕ) → List ℕ → List ℕ → LinkEnd → Type 0
HasWritten closed count due rest written end.BadHead =
    (status : ℕ) × IsRefused rest status × (end_of status ≡ end.BadHead) × (written ≡ joined (due ++ fixed_response (shown_of status) ∷ []))
HasWritten closed count due rest written end.NoMemory = written ≡ joined (due ++ fixed_response 503 ∷ [])
HasWritten closed count due rest written end.WriteFault = (words : List (List ℕ)) × IsLastWord closed count rest words × IsCut (due ++ words) written
HasWritten closed count due rest written end.Done = written ≡ joined due
HasWritten closed count due rest written end.Truncated = written ≡ joined due
HasWritten closed count due rest written end.ReadFault = written ≡ joined due
HasWritten closed count due rest written end.Spent = written ≡ joined due

-- why a connection ended: whether the last request asked for the close, how many calls were answered, and the bytes that belong to none
abbrev pub HasEndCause : Bool → ℕ → List ℕ → Input → Input → Output → Output → LinkEnd → Type 0
HasEndCause closed count rest old new out out_new end.Done =
    (count < request_limit) × ((closed ≡ true) ⊎ ((closed ≡ false) × (rest ≡ []) × HasEnded old new))
HasEndCause closed count rest old new out out_new end.Truncated = IsGoing closed count × (rest ≢ []) × HasNoMessage rest × MayBecomeMessage rest × HasEnded old new
HasEndCause closed count rest old new out out_new end.BadHead = IsGoing closed count
HasEndCause closed count rest old new out out_new end.ReadFault = IsGoing closed count × HasNoMessage rest × MayBecomeMessage rest × Rose old.faults new.faults
HasEndCause closed count rest old new out out_new end.WriteFault = (count ≤ request_limit) × Rose out.faults out_new.faults
HasEndCause closed count rest old new out out_new end.Spent = count ≡ request_limit
HasEndCause closed count rest old new out out_new end.NoMemory = IsGoing closed count

-- but for the end that a fault makes, the faults are as before: those of the source, and those of the sink
abbrev pub HasCalmSource : LinkEnd → Input → Input → Type 0
HasCalmSource end.ReadFault old new = ⊤
HasCalmSource ended old new = new.faults ≡ old.faults

abbrev pub HasCalmSink : LinkEnd → Output → Output → Type 0
HasCalmSink end.WriteFault old new = ⊤
HasCalmSink ended old new = new.faults ≡ old.faults

-- the source's ends are as before, but where its end ended the connection
abbrev pub HasCalmEnds : LinkEnd → Bool → Input → Input → Type 0
HasCalmEnds end.Done true old new = new.ends ≡ old.ends
HasCalmEnds end.Done false old new = ⊤
HasCalmEnds end.Truncated closed old new = ⊤
HasCalmEnds end.BadHead closed old new = new.ends ≡ old.ends
HasCalmEnds end.ReadFault closed old new = new.ends ≡ old.ends
HasCalmEnds end.WriteFault closed old new = new.ends ≡ old.ends
HasCalmEnds end.Spent closed old new = new.ends ≡ old.ends
HasCalmEnds end.NoMemory closed old new = new.ends ≡ old.ends

-- draws without a receipt: one at the most, where memory was refused, also where the fixed response met a write fault
abbrev pub HasUnused : LinkEnd → List Draw → Type 0
HasUnused end.NoMemory draws = length draws ≤ 1
HasUnused end.WriteFault draws = length draws ≤ 1
HasUnused ended draws = draws ≡ []

-- the end behind the last word, which a write fault overrides
abbrev pub ended_by : LinkEnd → Sent → LinkEnd
ended_by ended sent.Ok = ended
ended_by ended sent.WriteFault = end.WriteFault
