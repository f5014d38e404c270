-- A gate, its passes and their turns, as a caller sees them.
use Rattle.std.specs.Prelude.{◌≡◌, ℕ, ◌+◌, ◌<◌, List, [], ◌∷◌, ◌++◌, length, Option}
use mathlib.Core.List.{IsPrefix}
use Rattle.es_gate.specs.declared.tickets.Held.{Held}
use Rattle.es_gate.specs.declared.gate.Gate.{Gate}
use Rattle.es_gate.specs.declared.gate.Pass.{Pass}
use Rattle.es_gate.specs.Turns.{start_of}
use Rattle.es_gate.specs.Passes.{IsIdle, HasTurn, StandsFor}

module _ {V G E : Type 0} where
  -- the entries that the pass has seen
  abbrev pub seen : Pass V G E → List E
  seen pass = pass.seat.me.0.seen

  -- the length of the counted list at the start of each of its turns
  abbrev pub found : Pass V G E → List ℕ
  found pass = pass.seat.me.0.found

  -- how many entries it has added
  abbrev pub added : Pass V G E → ℕ
  added pass = pass.share.amount

  -- how many parts of the gate's ledger it has
  abbrev pub parts : Pass V G E → ℕ
  parts pass = pass.share.parts

module _ {V G E : Type 0} (entries : V → List E) (gate : Gate V G E) where
  -- the list for which the opening value stood
  abbrev pub opening_of : List E
  opening_of = entries gate.table.shared.key.value

  -- the pass is one of this gate, between two turns
  abbrev pub IsPassOf : Pass V G E → Type 0
  IsPassOf pass = IsIdle gate.table.shared.table_id pass.seat × (0 < pass.share.parts) × (pass.seat.me.0.opening ≡ length opening_of)

  -- it is the turn of a pass of this gate
  abbrev pub IsTurnOf : Pass V G E → Option (Held V G) → Type 0
  IsTurnOf pass held = HasTurn entries gate.table.shared.table_id pass.seat held × (0 < pass.share.parts) × (pass.seat.me.0.opening ≡ length opening_of)

module _ {V G E : Type 0} (entries : V → List E) where
  -- the turn begins: the value stands for the counted list, which begins with what the pass had seen
  abbrev pub Begins : Pass V G E → Pass V G E → Option (Held V G) → Type 0
  Begins before now held = IsPrefix (seen before) (seen now) × StandsFor entries held (seen now)
      × (start_of now.seat.me.0.stage ≡ length (seen now)) × (found now ≡ found before) × (added now ≡ added before) × (parts now ≡ parts before)

  -- the counted list has one entry more, for which the value stands
  abbrev pub Adds : Pass V G E → Pass V G E → Option (Held V G) → Type 0
  Adds before now held = ((e : E) × (seen now ≡ seen before ++ e ∷ [])) × StandsFor entries held (seen now)
      × (start_of now.seat.me.0.stage ≡ start_of before.seat.me.0.stage) × (found now ≡ found before) × (added now ≡ added before + 1) × (parts now ≡ parts before)

  -- the turn is over: the pass has found one more length, that at the turn's start
  abbrev pub Ends : Pass V G E → Pass V G E → Type 0
  Ends before now = (seen now ≡ seen before) × (found now ≡ found before ++ start_of before.seat.me.0.stage ∷ []) × (added now ≡ added before) × (parts now ≡ parts before)
