-- The serving loop.
use Rattle.std.proofs.Common.{◌≡◌, ℕ, ◌+◌, ◌<◌, ◌≤◌, Bool, true, false, List, [], ◌∷◌, length, Option, refl, sym, subst, ◌∙◌, arith, if◌then◌else◌}
use Rattle.es_edge.specs.Moves.{Input, Output}
use Rattle.es_wire.specs.declared.receipt.Receipt.{Receipt}
use Rattle.es_wire.specs.declared.receipt.LinkEnd.{LinkEnd}
use Rattle.es_wire.specs.declared.receipt.LinkEnd.TheVariants as end
use Rattle.es_session.specs.Ending.{request_limit}
use Rattle.es_session.specs.Session.{Ends}
use Rattle.es_session.proofs.Running.{Runs-none, Runs-then, Runs-Ends, Runs-spent, Runs-closed}
use Rattle.es_session.proofs.Stepping.{alone_none, alone_then}
use Rattle.es_drive.specs.declared.run.Turn.TheVariants as turn
use Rattle.es_edge.specs.Draws.{Lots}
use Rattle.es_vault.specs.World.{World, Entry, PlacedWorld, StandsFor, opening_entry}
use Rattle.es_drive.specs.Answer.{node}
use Rattle.es_drive.specs.Turns.{caller, state, Grows, TurnsFrom}
use Rattle.es_drive.specs.Serving.{Serves}

Grows-then : (w : World) (J K L : List Entry) (at at' : PlacedWorld) (rs ts us : List Receipt) → Grows w J K at rs ts → Grows w K L at' ts us → Grows w J L at' rs us
Grows-then w J K L at at' rs ts us first second = record { stands = second.stands; alone = alone_then J K L rs ts us first.alone second.alone }

-- the connection as a whole, from the opening to its end
abbrev pub Whole : ℕ → World → Option ℕ → PlacedWorld → List ℕ → List Receipt → Input → Input → Output → Output → Lots → Lots → LinkEnd → Type 0
Whole limit w clock at pending rs a b o v lots lots' ended =
    (J : List Entry) × (rest : List ℕ) × Grows w (opening_entry ∷ []) J at [] rs
    × Ends (node limit w) caller clock (state (opening_entry ∷ []) pending [] a o lots) (state J rest rs b v lots') ended

module _ (limit : ℕ) (clock : Option ℕ) (at : PlacedWorld) where
  -- the loop begins
  pub serves_none : (pending : List ℕ) (a : Input) (o : Output) (lots : Lots) (rs : List Receipt) → rs ≡ [] → StandsFor at.world (opening_entry ∷ []) at → a.is_open ≡ true → o.is_open ≡ true
      → Serves 0 limit at.world clock at pending pending rs a a o o lots lots
  serves_none pending a o lots rs none stands source sink =
      subst (λ (ts : List Receipt). Serves 0 limit at.world clock at pending pending ts a a o o lots lots) (sym none)
      (record {
        journal = opening_entry ∷ [];
        grows = record { stands = stands; alone = alone_none (opening_entry ∷ []) [] };
        runs = Runs-none (state (opening_entry ∷ []) pending [] a o lots);
        answered = refl;
        source_is_open = source;
        sink_is_open = sink;
      })

module _ {count limit : ℕ} {w : World} {clock : Option ℕ} {at : PlacedWorld} {pending p : List ℕ} {rs : List Receipt} {a b : Input} {o v : Output} {lots lots' : Lots}
    (so_far : Serves count limit w clock at pending p rs a b o v lots lots') where
  -- one request more
  pub serves_more : {at' : PlacedWorld} {q : List ℕ} {ts : List Receipt} {c : Input} {u : Output} {m : Lots}
      → TurnsFrom limit w clock so_far.journal at' p q rs ts b c v u lots' m turn.Goes → c.is_open ≡ true → u.is_open ≡ true
      → Serves (count + 1) limit w clock at' pending q ts a c o u lots m
  serves_more {at'} {q} {ts} {c} {u} {m} more source sink =
      let grows : Grows w (opening_entry ∷ []) more.0 at' [] ts = Grows-then w (opening_entry ∷ []) so_far.journal more.0 at at' [] rs ts so_far.grows more.1 in
      let one : length ts ≡ length rs + 1 = more.2 in
      let before = so_far.answered in
      let answered : length ts ≡ count + 1 = omega arith in
      record {
        journal = more.0;
        grows = grows;
        runs = Runs-then so_far.runs more.3;
        answered = answered;
        source_is_open = source;
        sink_is_open = sink;
      }

  module _ {at' : PlacedWorld} {ts : List Receipt} {c : Input} {u : Output} {m : Lots} (q : List ℕ) where
    pub serves_ended : {ended : LinkEnd} → TurnsFrom limit w clock so_far.journal at' p q rs ts b c v u lots' m (turn.Ends ended) → Whole limit w clock at' pending ts a c o u lots m ended
    serves_ended {ended} last =
        (last.0, last.1, Grows-then w (opening_entry ∷ []) so_far.journal last.0 at at' [] rs ts so_far.grows last.2, Runs-Ends so_far.runs last.3)

    -- the last request asked for the close, and it was the last that may be answered
    pub serves_closed_spent : TurnsFrom limit w clock so_far.journal at' p q rs ts b c v u lots' m turn.Closes → count + 1 ≡ request_limit → Whole limit w clock at' pending ts a c o u lots m end.Spent
    serves_closed_spent last limit =
        let one : length ts ≡ length rs + 1 = last.2 in
        let before = so_far.answered in
        let all : length ts ≡ request_limit = omega arith in
        (last.0, q, Grows-then w (opening_entry ∷ []) so_far.journal last.0 at at' [] rs ts so_far.grows last.1, Runs-spent (Runs-then so_far.runs last.3) all)

    -- the last request asked for the close
    pub serves_closed : TurnsFrom limit w clock so_far.journal at' p q rs ts b c v u lots' m turn.Closes → count + 1 < request_limit → Whole limit w clock at' pending ts a c o u lots m end.Done
    serves_closed last limit =
        let one : length ts ≡ length rs + 1 = last.2 in
        let before = so_far.answered in
        let some : length ts < request_limit = omega arith in
        (last.0, q, Grows-then w (opening_entry ∷ []) so_far.journal last.0 at at' [] rs ts so_far.grows last.1, Runs-closed (Runs-then so_far.runs last.3) some)

  -- as many as may be answered were
  pub serves_spent : count ≡ request_limit → Whole limit w clock at pending rs a b o v lots lots' end.Spent
  serves_spent limit = (so_far.journal, p, so_far.grows, Runs-spent so_far.runs (so_far.answered ∙ limit))
