-- The rule of the table behind a gate, and what each step tells.
use Rattle.std.specs.Prelude.{◌≡◌, ◌≢◌, ◌⊎◌, ℕ, ◌+◌, ◌<◌, ◌≤◌, List, [], ◌∷◌, ◌++◌, length, ltb, Option, Some, None}
use Rattle.std.specs.Bool.{if◌then◌else◌}
use mathlib.Core.List.{IsPrefix}
use mathlib.Core.Option.{some}
use mathlib.Core.Option as maybe
use lib.ListN.{get_elem?}
use Rattle.atomic_table.specs.Table.{State, Me, Step}
use Rattle.es_gate.specs.declared.tickets.Stage.{Stage}
use Rattle.es_gate.specs.declared.tickets.Stage.TheVariants.{Idle, Waiting, Served, Spent}
use Rattle.es_gate.specs.declared.tickets.View.{View}
use Rattle.es_gate.specs.declared.tickets.Held.{Held}

-- the view of a seat that has heard nothing
abbrev pub view : {E : Type 0} → Stage → List E → List ℕ → ℕ → View E
view stage seen found opening = record { stage = stage; seen = seen; found = found; heard = []; opening = opening }

-- the first seat has seen the list that the opening value stands for
abbrev pub starting : {E : Type 0} → List E → View E
starting xs = view Idle xs [] (length xs)

-- a seat at this stage has the ticket n
abbrev pub HasTicket : ℕ → Stage → Type 0
HasTicket n Idle = ⊥
HasTicket n (Waiting m) = m ≡ n
HasTicket n (Served m start) = m ≡ n
HasTicket n Spent = ⊥

-- how many tickets a seat has
abbrev pub tickets : Stage → ℕ
tickets Idle = 0
tickets (Waiting m) = 1
tickets (Served m start) = 1
tickets Spent = 0

-- how many tickets these seats have
abbrev pub all_tickets : {E : Type 0} → List (View E) → ℕ
all_tickets [] = 0
all_tickets (v ∷ vs) = tickets v.stage + all_tickets vs

module _ {E : Type 0} (opening ticket serving : ℕ) (log : List E) where
  -- what a seat has seen, and the length with which it says the gate opened, at each stage
  abbrev pub Placed : List E → ℕ → Stage → Type 0
  Placed seen from Idle = from ≡ opening
  Placed seen from (Waiting n) = (from ≡ opening) × (serving ≤ n) × (n < ticket)
  Placed seen from (Served n start) = (from ≡ opening) × (n ≡ serving) × (n < ticket) × (seen ≡ log) × (start ≤ length log)
  Placed seen from Spent = Unit {0}

  -- what it has seen and heard begin the counted list
  abbrev pub Fits : View E → Type 0
  Fits v = IsPrefix v.seen log × Placed v.seen v.opening v.stage × IsPrefix v.heard log

  -- the seats have tickets of their own, all that were drawn and aren't done with
  pub record Seats (views : List (View E)) : Type 0 where
    pub each : (j : ℕ) (v : View E) → get_elem? views j ≡ some v → Fits v
    pub apart : (i j n : ℕ) (v w : View E) → get_elem? views i ≡ some v → get_elem? views j ≡ some w → HasTicket n v.stage → HasTicket n w.stage → i ≡ j
    pub counted : all_tickets views + serving ≡ ticket

-- what lies in the slot, of a gate that opened with so many entries, for a counted list
abbrev pub LiesBeside : {V G E : Type 0} → (V → List E) → ℕ → List E → Option (Held V G) → Type 0
LiesBeside entries opening log None = ⊥
LiesBeside entries opening log (Some h) = (entries h.value ≡ log) × (h.book.total + opening ≡ length log)

module _ {S E : Type 0} (lies : ℕ → List E → S → Type 0) where
  -- the value is at home and no seat is served, or a seat that is served has it
  abbrev pub Slot : ℕ → List E → List (maybe.Option S) → List (View E) → Type 0
  Slot opening log homes views =
      ((x : S) × (homes ≡ some x ∷ []) × lies opening log x × ((j n start : ℕ) (v : View E) → get_elem? views j ≡ some v → v.stage ≡ Served n start → ⊥))
      ⊎ ((homes ≡ maybe.none ∷ []) × ((j : ℕ) × (v : View E) × (n : ℕ) × (start : ℕ) × (get_elem? views j ≡ some v) × (v.stage ≡ Served n start)))

  -- the rule: three words count tickets and entries; the others, for those who wait, may be anything
  pub record Kept (from : List E) (s : State S (View E)) : Type 0 where
    pub ticket : ℕ
    pub serving : ℕ
    pub log : List E
    pub wakes : List ℕ
    pub words : s.words ≡ ticket ∷ serving ∷ length log ∷ wakes
    pub small : ticket < 18446744073709551616
    pub begins : IsPrefix from log
    pub seats : Seats (length from) ticket serving log s.views
    pub slot : Slot (length from) log s.homes s.views

-- the ticket of a seat that waits or is served
abbrev pub number : Stage → ℕ
number Idle = 0
number (Waiting n) = n
number (Served n start) = n
number Spent = 0

-- how many entries there were when the seat's turn began
abbrev pub start_of : Stage → ℕ
start_of Idle = 0
start_of (Waiting n) = 0
start_of (Served n start) = start
start_of Spent = 0

-- the list of a value that a step announces
abbrev pub said_list : {S E : Type 0} → (S → List E) → maybe.Option S → List E
said_list listed maybe.none = []
said_list listed (some x) = listed x

-- the longer of two lists
abbrev pub longer : {A : Type 0} → List A → List A → List A
longer xs ys = if ltb (length xs) (length ys) then ys else xs

module _ {S E : Type 0} where
  -- draw: a ticket that no other seat has, or the word was another
  abbrev pub drawn : Step S → Me S (View E) → ℕ → Me S (View E) → Type 0
  drawn st m found m' =
      (found ≡ st.first → (m'.1 ≡ m.1) × (m'.0 ≡ view (Waiting found) m.0.seen m.0.found m.0.opening))
      × (found ≢ st.first → m' ≡ m)

  -- look: where the number is that of the ticket, the seat is served, has the slot, and sees the list that the value stands for
  abbrev pub looked : (ℕ → List E → S → Type 0) → Step S → Me S (View E) → ℕ → Me S (View E) → Type 0
  looked lies st m found m' =
      (found ≡ number m.0.stage → (log : List E) × (x : S) × IsPrefix m.0.seen log × lies m.0.opening log x
      × (m' ≡ (view (Served found (length log)) log m.0.found m.0.opening, (0, x) ∷ m.1)))
      × (found ≢ number m.0.stage → m' ≡ m)

  -- add: the seat sees the list that the value stands for which the step announces
  abbrev pub added : (S → List E) → Step S → Me S (View E) → ℕ → Me S (View E) → Type 0
  added listed st m found m' = (found ≡ st.first) × (m' ≡ (view m.0.stage (said_list listed st.said) m.0.found m.0.opening, m.1))

  -- leave: the seat has no ticket, and gives the slot back; it found one more length
  abbrev pub left : Step S → Me S (View E) → ℕ → Me S (View E) → Type 0
  left st m found m' = m' ≡ (view Idle m.0.seen (m.0.found ++ start_of m.0.stage ∷ []) m.0.opening, [])

  -- learn: of what it has seen and what it has heard the seat sees the longer, which both begin
  abbrev pub learned : Step S → Me S (View E) → ℕ → Me S (View E) → Type 0
  learned st m found m' = (m' ≡ (view m.0.stage (longer m.0.seen m.0.heard) m.0.found m.0.opening, m.1))
      × IsPrefix m.0.seen (longer m.0.seen m.0.heard) × IsPrefix m.0.heard (longer m.0.seen m.0.heard)

  -- signal: a word that only those who wait read has changed
  abbrev pub unchanged : Step S → Me S (View E) → ℕ → Me S (View E) → Type 0
  unchanged st m found m' = m' ≡ m

module _ {E : Type 0} where
  -- a seat split off has seen the same list
  abbrev pub fresh : View E → View E
  fresh v = view Idle v.seen [] v.opening

  -- a seat hears what the other has seen
  abbrev pub both : View E → View E → View E
  both v w = record { stage = v.stage; seen = v.seen; found = v.found; heard = w.seen; opening = v.opening }

  -- a seat that was joined to another
  abbrev pub spent : View E
  spent = view Spent [] [] 0

module _ {V G E : Type 0} (entries : V → List E) where
  -- the list of a value that lies in a slot, or is out
  abbrev pub listed : Option (Held V G) → List E
  listed None = []
  listed (Some h) = entries h.value
