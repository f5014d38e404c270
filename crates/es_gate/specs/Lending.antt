-- A turn, after a write through `value`.
use Rattle.std.specs.Prelude.{Option, Some, None}
use Rattle.es_gate.specs.declared.tickets.Held.{Held}
use Rattle.es_gate.specs.declared.gate.turn.Turn.{Turn}

-- what is in hand, with another value
abbrev pub held_with : {V G : Type 0} → V → Option (Held V G) → Option (Held V G)
held_with w None = None
held_with w (Some h) = Some (record { value = w; book = h.book })

-- the turn, with another value in hand
abbrev pub with_value : {V G E : Type 0} → Turn V G E → V → Turn V G E
with_value t w = record t { held = held_with w t.held }
