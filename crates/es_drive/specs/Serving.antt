-- What a serving loop keeps.
use Rattle.std.specs.Prelude.{◌≡◌, ℕ, true, false, List, [], ◌∷◌, length, Option}
use Rattle.es_edge.specs.Moves.{Input, Output}
use Rattle.es_edge.specs.Draws.{Lots}
use Rattle.es_wire.specs.declared.receipt.Receipt.{Receipt}
use Rattle.es_session.specs.Session.{Runs}
use Rattle.es_vault.specs.World.{World, Entry, PlacedWorld, opening_entry}
use Rattle.es_drive.specs.Answer.{node}
use Rattle.es_drive.specs.Turns.{caller, state, Grows}

-- so many requests were answered from the opening on, and the connection goes on
pub record Serves
    (count limit : ℕ) (w : World) (clock : Option ℕ) (at : PlacedWorld) (pending pending' : List ℕ) (rs : List Receipt)
    (old new : Input) (out out_new : Output) (lots lots_new : Lots) : Type 0 where
  pub journal : List Entry
  pub grows : Grows w (opening_entry ∷ []) journal at [] rs
  pub runs : Runs (node limit w) caller clock false (state (opening_entry ∷ []) pending [] old out lots) (state journal pending' rs new out_new lots_new)
  pub answered : length rs ≡ count
  pub source_is_open : new.is_open ≡ true
  pub sink_is_open : out_new.is_open ≡ true
