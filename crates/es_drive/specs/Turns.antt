-- One turn of a connection on its own node.
use Rattle.std.specs.Prelude.{◌≡◌, ℕ, ◌+◌, ◌≤◌, Bool, true, false, List, length, Option}
use Rattle.es_edge.specs.Moves.{Input, Output}
use Rattle.es_edge.specs.Draws.{Lots, Draws}
use Rattle.es_edge.specs.declared.chance.Draw.{Draw}
use Rattle.es_wire.specs.declared.request.RawRequest.{RawRequest}
use Rattle.es_wire.specs.declared.receipt.Receipt.{Receipt}
use Rattle.es_session.specs.State.{State}
use Rattle.es_session.specs.Session.{Runs, Ends, Replies, IsAlone}
use Rattle.es_vault.specs.World.{World, Entry, PlacedWorld, StandsFor}
use Rattle.es_drive.specs.declared.run.Turn.{Turn}
use Rattle.es_drive.specs.declared.run.Turn.TheVariants as turn
use Rattle.es_drive.specs.Answer.{node}

-- the one caller
abbrev pub caller : ℕ
caller = 1

-- the journal grew by the changes of the receipts that were added, and the vault's world stands for it
pub record Grows (w : World) (J J' : List Entry) (at : PlacedWorld) (rs rs' : List Receipt) : Type 0 where
  pub stands : StandsFor w J' at
  pub alone : IsAlone J J' rs rs'

-- at the most one draw has no receipt
pub record DrawsOnce (old new : Lots) : Type 0 where
  pub unused : List Draw
  pub few : length unused ≤ 1
  pub drew : Draws old new unused

-- the connection
abbrev pub state : List Entry → List ℕ → List Receipt → Input → Output → Lots → State Entry
state J pending rs input output lots = record { journal = J; pending = pending; receipts = rs; input = input; output = output; lots = lots }

-- one request was answered, from a journal on
abbrev pub RepliesFrom : ℕ → World → Option ℕ → List Entry → PlacedWorld → RawRequest → List Receipt → List Receipt → Lots → Lots → List ℕ → Type 0
RepliesFrom limit w clock J at raw rs rs' lots lots' written =
    (J' : List Entry) × Grows w J J' at rs rs' × Replies (node limit w) caller clock J J' rs rs' lots lots' raw written

-- a turn, from a journal on: one more request was answered, which may have asked for the close, or the connection ended
abbrev pub TurnsFrom :
    ℕ → World → Option ℕ → List Entry → PlacedWorld → List ℕ → List ℕ → List Receipt → List Receipt → Input → Input → Output → Output → Lots → Lots → Turn → Type 0
TurnsFrom limit w clock J at pending pending' rs rs' old new out out_new lots lots' turn.Goes =
    (J' : List Entry) × Grows w J J' at rs rs' × (length rs' ≡ length rs + 1)
    × Runs (node limit w) caller clock false (state J pending rs old out lots) (state J' pending' rs' new out_new lots')
TurnsFrom limit w clock J at pending pending' rs rs' old new out out_new lots lots' turn.Closes =
    (J' : List Entry) × Grows w J J' at rs rs' × (length rs' ≡ length rs + 1)
    × Runs (node limit w) caller clock true (state J pending rs old out lots) (state J' pending' rs' new out_new lots')
TurnsFrom limit w clock J at pending pending' rs rs' old new out out_new lots lots' (turn.Ends ended) =
    (J' : List Entry) × (rest : List ℕ) × Grows w J J' at rs rs' × Ends (node limit w) caller clock (state J pending rs old out lots) (state J' rest rs' new out_new lots') ended

-- the turn after a request that was answered
abbrev pub turn_for : Bool → Turn
turn_for true = turn.Closes
turn_for false = turn.Goes
