-- What a pass and a turn are, to a caller.
use Rattle.std.specs.Prelude.{◌≡◌, ℕ, ◌+◌, List, [], ◌∷◌, ◌++◌, length, Option, Some, None}
use mathlib.Core.List.{IsPrefix}
use Rattle.atomic_table.specs.Seated.{TableId}
use Rattle.atomic_table.specs.declared.shared.Seat.{Seat}
use Rattle.es_gate.specs.declared.tickets.Stage.TheVariants.{Idle, Waiting, Served}
use Rattle.es_gate.specs.declared.tickets.View.{View}
use Rattle.es_gate.specs.declared.tickets.Held.{Held}
use Rattle.es_gate.specs.Turns.{view, start_of, longer, LiesBeside}

module _ {S E : Type 0} where
  -- the seat is one of that table, which has twenty words and one slot
  abbrev pub IsSeated : TableId → Seat S (View E) → Type 0
  IsSeated table p = (p.table_id ≡ table) × (table.words ≡ 20) × (table.slots ≡ 1)

  -- the seat with the same number, at the same table
  abbrev pub IsSameSeat : Seat S (View E) → Seat S (View E) → Type 0
  IsSameSeat p q = (q.table_id ≡ p.table_id) × (q.id ≡ p.id)

  -- the seat has drawn the ticket n
  abbrev pub Draws : Seat S (View E) → ℕ → Seat S (View E) → Type 0
  Draws p n q = IsSameSeat p q × (q.me ≡ (view (Waiting n) p.me.0.seen p.me.0.found p.me.0.opening, p.me.1))

  -- the seat with the ticket n is served: it has seen the counted list, and has the slot with a value that stands for it
  abbrev pub Enters : (ℕ → List E → S → Type 0) → Seat S (View E) → ℕ → Seat S (View E) → Type 0
  Enters lies p n q = IsSameSeat p q × ((log : List E) × (x : S) × IsPrefix p.me.0.seen log × lies p.me.0.opening log x
      × (q.me ≡ (view (Served n (length log)) log p.me.0.found p.me.0.opening, (0, x) ∷ p.me.1)))

  -- the seat has no ticket and no slot
  abbrev pub IsIdle : TableId → Seat S (View E) → Type 0
  IsIdle table p = IsSeated table p × (p.me.0.stage ≡ Idle) × (p.me.1 ≡ [])

  -- the seat has left: it has seen the counted list, and found the length at which its turn began
  abbrev pub Leaves : TableId → Seat S (View E) → Seat S (View E) → Type 0
  Leaves table p q = IsIdle table q × (q.me.0.seen ≡ p.me.0.seen) × (q.me.0.found ≡ p.me.0.found ++ start_of p.me.0.stage ∷ []) × (q.me.0.opening ≡ p.me.0.opening)

  -- of what it has seen and what it has heard, the seat sees the longer, which both begin
  abbrev pub Learns : Seat S (View E) → Seat S (View E) → Type 0
  Learns p q = IsSameSeat p q × (q.me ≡ (view p.me.0.stage (longer p.me.0.seen p.me.0.heard) p.me.0.found p.me.0.opening, p.me.1))
      × IsPrefix p.me.0.seen q.me.0.seen × IsPrefix p.me.0.heard q.me.0.seen

module _ {V G E : Type 0} (entries : V → List E) where
  -- the seat is served, and what was in the slot is the value that stands for these entries, beside the book that counts them
  abbrev pub HasTurn : TableId → Seat (Option (Held V G)) (View E) → Option (Held V G) → Type 0
  HasTurn table p held = IsSeated table p × ((n : ℕ) × (start : ℕ) × (p.me.0.stage ≡ Served n start)) × (p.me.1 ≡ (0, None) ∷ [])
      × ((h : Held V G) × (held ≡ Some h) × (h.book.total + p.me.0.opening ≡ length p.me.0.seen))

  -- the value in hand stands for these entries
  abbrev pub StandsFor : Option (Held V G) → List E → Type 0
  StandsFor held xs = (h : Held V G) × (held ≡ Some h) × (entries h.value ≡ xs)

  -- a turn begins: the value stands for the counted list, which begins with what the seat had seen
  abbrev pub BeginsTurn : TableId → Seat (Option (Held V G)) (View E) → Seat (Option (Held V G)) (View E) → Option (Held V G) → Type 0
  BeginsTurn table p q held = HasTurn table q held × IsPrefix p.me.0.seen q.me.0.seen × StandsFor held q.me.0.seen
      × (q.me.0.found ≡ p.me.0.found) × (q.me.0.opening ≡ p.me.0.opening) × ((n : ℕ) × (q.me.0.stage ≡ Served n (length q.me.0.seen)))

  -- the same value, beside a book that counts n more
  abbrev pub BooksMore : ℕ → Option (Held V G) → Option (Held V G) → Type 0
  BooksMore n held held' = (h : Held V G) × (h' : Held V G) × (held ≡ Some h) × (held' ≡ Some h') × (h'.value ≡ h.value) × (h'.book.total ≡ h.book.total + n)

  -- the same value, in one hand and in the other
  abbrev pub IsSameValue : Option (Held V G) → Option (Held V G) → Type 0
  IsSameValue held held' = (h : Held V G) × (h' : Held V G) × (held ≡ Some h) × (held' ≡ Some h') × (h'.value ≡ h.value)

  -- the value stands for one entry more than the counted list
  abbrev pub HasGrown : Seat (Option (Held V G)) (View E) → Option (Held V G) → Type 0
  HasGrown p held = (e : E) × StandsFor held (p.me.0.seen ++ e ∷ [])

  -- the counted list has the entry, and nothing else of the turn changed
  abbrev pub Appends : Seat (Option (Held V G)) (View E) → Seat (Option (Held V G)) (View E) → Option (Held V G) → Type 0
  Appends p q held = StandsFor held q.me.0.seen × ((e : E) × (q.me.0.seen ≡ p.me.0.seen ++ e ∷ []))
      × (q.me.0.found ≡ p.me.0.found) × (q.me.0.opening ≡ p.me.0.opening) × (q.me.0.stage ≡ p.me.0.stage)

  -- the seat is served, and what it put into the slot is a value that stands for the counted list, beside its book
  abbrev pub IsDone : TableId → Seat (Option (Held V G)) (View E) → Type 0
  IsDone table p = IsSeated table p × ((n : ℕ) × (start : ℕ) × (p.me.0.stage ≡ Served n start))
      × ((x : Option (Held V G)) × (p.me.1 ≡ (0, x) ∷ []) × LiesBeside entries p.me.0.opening p.me.0.seen x)

-- it is the value in hand
abbrev pub IsInHand : {V G : Type 0} → Option (Held V G) → V → Type 0
IsInHand held value = (h : Held _ _) × (held ≡ Some h) × (h.value ≡ value)
