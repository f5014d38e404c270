-- What a connection read, wrote and was answered.
use Rattle.std.specs.Prelude.{◌≡◌, ℕ, ◌+◌, ◌<◌, ◌≤◌, ◌⊎◌, Bool, List, [], ◌∷◌, ◌++◌, length, Option, IsTrue}
use Rattle.es_edge.specs.declared.chance.Draw.{Draw}
use Rattle.es_edge.specs.Moves.{Input, Output, Gives, Takes}
use Rattle.es_edge.specs.Draws.{Lots, Draws}
use Rattle.es_wire.specs.Requests.{Message, Begins}
use Rattle.es_wire.specs.declared.request.RawRequest.{RawRequest}
use Rattle.es_wire.specs.declared.receipt.Receipt.{Receipt}
use Rattle.es_wire.specs.declared.receipt.LinkEnd.{LinkEnd}
use Rattle.es_wire.specs.declared.receipt.LinkEnd.TheVariants as end
use Rattle.es_session.specs.Node.{Node}
use Rattle.es_session.specs.Legal.{AllLegal, AllAnswered, Ascends, AllHaveMoments, drawn_for, response_at, responses, joined, changes}
use Rattle.es_session.specs.State.{State}
use Rattle.es_session.specs.Ending.{HasWritten, HasEndCause, HasCalmSource, HasCalmSink, HasCalmEnds, HasUnused}

-- from one state to another, these requests were read of these bytes and answered, each with the receipts of its calls
pub record Answers
    (N : Node) (caller : ℕ) (clock : Option ℕ) (closed : Bool) (old new : State N.Entry)
    (read : List ℕ) (messages : List Message) (groups : List (List Receipt)) : Type 0 where
  pub gave : Gives old.input new.input read
  pub begins : Begins (old.pending ++ read) messages new.pending closed
  pub receipts : new.receipts ≡ old.receipts ++ joined groups
  pub entries : List N.Entry
  pub journal : new.journal ≡ old.journal ++ entries
  pub answered : AllAnswered N caller new.journal messages groups
  pub ascends : Ascends (length old.journal) (length new.journal) (joined groups)
  pub moments : AllHaveMoments clock (joined groups)

-- the connection goes on, or closed is true and it has answered its last request: what happened from one state to another
pub record Runs (N : Node) (caller : ℕ) (clock : Option ℕ) (closed : Bool) (old new : State N.Entry) : Type 0 where
  pub read : List ℕ
  pub messages : List Message
  pub groups : List (List Receipt)
  pub answers : Answers N caller clock closed old new read messages groups
  pub drew : Draws old.lots new.lots (drawn_for (joined groups))
  pub took : Takes old.output new.output (joined (responses N caller new.journal messages groups))
  pub calm_source : new.input.faults ≡ old.input.faults
  pub calm_sink : new.output.faults ≡ old.output.faults
  pub calm_ends : new.input.ends ≡ old.input.ends

-- the connection ended: what happened from a state on
pub record Ends (N : Node) (caller : ℕ) (clock : Option ℕ) (old new : State N.Entry) (ended : LinkEnd) : Type 0 where
  pub closed : Bool
  pub read : List ℕ
  pub written : List ℕ
  pub messages : List Message
  pub groups : List (List Receipt)
  pub unused : List Draw
  pub answers : Answers N caller clock closed old new read messages groups
  pub drew : Draws old.lots new.lots (drawn_for (joined groups) ++ unused)
  pub no_receipt : HasUnused ended unused
  pub took : Takes old.output new.output written
  pub writes : HasWritten closed (length new.receipts) (responses N caller new.journal messages groups) new.pending written ended
  pub cause : HasEndCause closed (length new.receipts) new.pending old.input new.input old.output new.output ended
  pub calm_source : HasCalmSource ended old.input new.input
  pub calm_sink : HasCalmSink ended old.output new.output
  pub calm_ends : HasCalmEnds ended closed old.input new.input

-- the calls of one request were answered, from one journal and its receipts to the next, and what is to be written was made
pub record Replies
    (N : Node) (caller : ℕ) (clock : Option ℕ) (J J' : List N.Entry) (rs rs' : List Receipt) (lots lots' : Lots)
    (raw : RawRequest) (written : List ℕ) : Type 0 where
  pub added : List Receipt
  pub entries : List N.Entry
  pub receipts : rs' ≡ rs ++ added
  pub journal : J' ≡ J ++ entries
  pub legal : AllLegal N J' (N.calls_of caller raw) added
  pub ascends : Ascends (length J) (length J') added
  pub moments : AllHaveMoments clock added
  pub drew : Draws lots lots' (drawn_for added)
  pub written_is : written ≡ response_at N caller J' raw added

-- the journal grew by the changes of these calls, and by no others
abbrev pub IsAlone : {Entry : Type 0} → List Entry → List Entry → List Receipt → List Receipt → Type 0
IsAlone J J' rs rs' = length J' + changes rs ≡ length J + changes rs'

-- no connection was opened: nothing was read, written, drawn or answered
pub record IsUnopened (rs : List Receipt) (ended : LinkEnd) (place : ℕ) (old new : Input) (out out_new : Output) (lots lots_new : Lots) : Type 0 where
  pub receipts : rs ≡ []
  pub cause : ended ≡ end.NoMemory
  pub place_is : place ≡ 0
  pub gave : new ≡ old
  pub took : out_new ≡ out
  pub drew : lots_new ≡ lots

-- a connection that is opened on a journal
abbrev pub opened_on : {Entry : Type 0} → List Entry → Input → Output → Lots → State Entry
opened_on J input output lots = record { journal = J; pending = []; receipts = []; input = input; output = output; lots = lots }

-- a whole run of one connection alone on a node whose journal begins with these entries: it wasn't opened for want of memory,
-- or its receipts and its end are those of a session, whose own changes are all that the journal has besides
abbrev pub IsRunOf : (N : Node) → ℕ → Option ℕ → List N.Entry → List Receipt → LinkEnd → ℕ → Input → Input → Output → Output → Lots → Lots → Type 0
IsRunOf N caller clock J rs ended place old new out out_new lots lots_new =
    IsUnopened rs ended place old new out out_new lots lots_new
    ⊎ ((J' : List N.Entry) × (rest : List ℕ)
    × Ends N caller clock (opened_on J old out lots) (record { journal = J'; pending = rest; receipts = rs; input = new; output = out_new; lots = lots_new }) ended
    × IsAlone J J' [] rs × (place ≡ length J'))
