-- For callers of a turn: what is in hand after a write through `value`.
use Rattle.std.proofs.Common.{◌≡◌, List, ap, ◌∙◌, sym, Option}
use Rattle.atomic_table.specs.Seated.{TableId}
use Rattle.atomic_table.specs.declared.shared.Seat.{Seat}
use Rattle.es_gate.specs.declared.tickets.View.{View}
use Rattle.es_gate.specs.declared.tickets.Held.{Held}
use Rattle.es_gate.specs.Passes.{HasTurn, StandsFor, IsInHand}
use Rattle.es_gate.specs.Lending.{held_with}
use Rattle.es_gate.specs.declared.gate.Gate.{Gate}
use Rattle.es_gate.specs.declared.gate.Pass.{Pass}
use Rattle.es_gate.specs.Gates.{IsTurnOf}
use Rattle.es_gate.proofs.Turning.{some_same}

module _ {V G E : Type 0} (entries : V → List E) where
  -- the seat's turn goes on with another value in hand
  pub turn_with : (table : TableId) (p : Seat (Option (Held V G)) (View E)) (held : Option (Held V G)) (w : V) → HasTurn entries table p held → HasTurn entries table p (held_with w held)
  turn_with table p held w turn = (turn.0, turn.1, turn.2, (record { value = w; book = turn.3.0.book }, ap (held_with w) turn.3.1, turn.3.2))

  -- another value in hand stands for its own list
  pub stands_with : (table : TableId) (p : Seat (Option (Held V G)) (View E)) (held : Option (Held V G)) (w : V) (xs : List E) → HasTurn entries table p held → entries w ≡ xs → StandsFor entries (held_with w held) xs
  stands_with table p held w xs turn e = (record { value = w; book = turn.3.0.book }, ap (held_with w) turn.3.1, e)

  -- the value in hand stands for what is known of it
  pub in_hand : (held : Option (Held V G)) (v : V) (xs : List E) → StandsFor entries held xs → IsInHand held v → entries v ≡ xs
  in_hand held v xs stands is = ap entries (sym is.2) ∙ (ap (λ (h : Held V G). entries h.value) (some_same held is.0 stands.0 is.1 stands.1) ∙ stands.2)

  -- a write through `value` leaves it a turn of the pass
  pub still_turn : (gate : Gate V G E) (pass : Pass V G E) (held : Option (Held V G)) (w : V) → IsTurnOf entries gate pass held → IsTurnOf entries gate pass (held_with w held)
  still_turn gate pass held w turn = (turn_with _ pass.seat held w turn.0, turn.1, turn.2)

  -- the value that was written stands for its own list
  pub stands_now : (gate : Gate V G E) (pass : Pass V G E) (held : Option (Held V G)) (w : V) (xs : List E) → IsTurnOf entries gate pass held → entries w ≡ xs → StandsFor entries (held_with w held) xs
  stands_now gate pass held w xs turn e = stands_with _ pass.seat held w xs turn.0 e
