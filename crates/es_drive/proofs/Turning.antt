-- One turn, by what the connection answers.
use Rattle.std.proofs.Common.{◌≡◌, ℕ, ◌+◌, ◌<◌, ◌≤◌, Bool, true, false, List, [], ◌∷◌, ◌++◌, length, length-append, Option, ap, ◌∙◌, arith}
use Rattle.es_edge.specs.Moves.{Input, Output, Gives}
use Rattle.es_edge.specs.Sends.{Sends}
use Rattle.es_edge.specs.declared.sending.Sent.{Sent}
use Rattle.es_edge.specs.declared.sending.Sent.TheVariants as sent
use Rattle.es_edge.proofs.MoveLemmas.{Takes-none}
use Rattle.es_edge.proofs.DrawLemmas.{Draws-none}
use Rattle.es_wire.specs.declared.request.RawRequest.{RawRequest}
use Rattle.es_wire.specs.declared.conn.Next.TheVariants as next
use Rattle.es_wire.specs.declared.receipt.Receipt.{Receipt}
use Rattle.es_wire.specs.declared.receipt.LinkEnd.{LinkEnd}
use Rattle.es_wire.specs.declared.receipt.LinkEnd.TheVariants as end
use Rattle.es_wire.specs.Next.{NextOf}
use Rattle.es_session.specs.Ending.{IsLastWord, HasWritten, HasEndCause, HasCalmSource, HasCalmSink, HasCalmEnds, HasUnused, ended_by, request_limit}
use Rattle.es_session.specs.Session.{Runs, Ends}
use Rattle.es_session.proofs.Growing.{AllLegal-length}
use Rattle.es_session.proofs.Stepping.{goes_on, write_fault, ends_with, ends_in_words, alone_none}
use Rattle.es_drive.specs.declared.run.Turn.TheVariants as turn
use Rattle.es_edge.specs.Draws.{Lots, Draws}
use Rattle.es_edge.specs.declared.chance.Draw.{Draw}
use Rattle.es_vault.specs.World.{World, Entry, PlacedWorld, StandsFor}
use Rattle.es_drive.specs.Answer.{node, call_of}
use Rattle.es_drive.specs.Turns.{caller, state, Grows, RepliesFrom, TurnsFrom, turn_for}

module _ (limit : ℕ) (w : World) (clock : Option ℕ) (J : List Entry) (lots : Lots) where
  one_more : {lots' : Lots} {at : PlacedWorld} {raw : RawRequest} {rs ts : List Receipt} {written : List ℕ}
      → RepliesFrom limit w clock J at raw rs ts lots lots' written → length ts ≡ length rs + 1
  one_more {lots'} {at} {raw} {rs} {ts} {written} answered =
      ap length answered.2.receipts ∙ length-append rs answered.2.added
      ∙ ap (λ (n : ℕ). length rs + n) (AllLegal-length (node limit w) answered.0 (call_of caller raw ∷ []) answered.2.added answered.2.legal)

  went_on : {lots' : Lots} (last : Bool) {at : PlacedWorld} {p q : List ℕ} {rs ts : List Receipt} {a b : Input} {o v : Output} (K : List Entry)
      → Grows w J K at rs ts → length ts ≡ length rs + 1 → Runs (node limit w) caller clock last (state J p rs a o lots) (state K q ts b v lots')
      → TurnsFrom limit w clock J at p q rs ts a b o v lots lots' (turn_for last)
  went_on {lots'} true {at} K grows more runs = (K, grows, more, runs)
  went_on {lots'} false {at} K grows more runs = (K, grows, more, runs)

  -- a request was answered, and its response written
  pub turns_on : {lots' : Lots} {at : PlacedWorld} {p q : List ℕ} {rs ts : List Receipt} {a b : Input} {o v : Output} {raw : RawRequest} {written : List ℕ}
      → NextOf p q a b (next.Request raw) → RepliesFrom limit w clock J at raw rs ts lots lots' written → Sends o v written sent.Ok
      → TurnsFrom limit w clock J at p q rs ts a b o v lots lots' (turn_for raw.last)
  turns_on {lots'} {at} {p} {q} {rs} {ts} {a} {b} {o} {v} {raw} {written} read answered sends =
      went_on raw.last answered.0 answered.1 (one_more answered) (goes_on (state J p rs a o lots) (state answered.0 q ts b v lots') read answered.2 sends)

  -- its response wasn't written whole
  pub turns_at_fault : {lots' : Lots} {at : PlacedWorld} {p q : List ℕ} {rs ts : List Receipt} {a b : Input} {o v : Output} {raw : RawRequest} {written : List ℕ}
      → NextOf p q a b (next.Request raw) → RepliesFrom limit w clock J at raw rs ts lots lots' written → Sends o v written sent.WriteFault
      → length rs < request_limit → TurnsFrom limit w clock J at p q rs ts a b o v lots lots' (turn.Ends end.WriteFault)
  turns_at_fault {lots'} {at} {p} {q} {rs} {ts} {a} {b} {o} {v} {raw} {written} read answered sends few =
      let more : length ts ≡ length rs + 1 = one_more answered in
      (answered.0, q, answered.1, write_fault (state J p rs a o lots) (state answered.0 q ts b v lots') read answered.2 sends (omega arith))

  module _ (at : PlacedWorld) (stands : StandsFor w J at) where
    -- the connection ended, from the journal on
    abbrev pub EndsFrom : List ℕ → List Receipt → List Receipt → Input → Input → Output → Output → Lots → LinkEnd → Type 0
    EndsFrom p rs ts a b o v lots' ended =
        (K : List Entry) × (rest : List ℕ) × Grows w J K at rs ts × Ends (node limit w) caller clock (state J p rs a o lots) (state K rest ts b v lots') ended

    stays : {rs : List Receipt} → Grows w J J at rs rs
    stays {rs} = record { stands = stands; alone = alone_none J rs }

    -- nothing more was read as a request, and nothing is written
    pub turns_silent : {p : List ℕ} {rs : List Receipt} {a b : Input} {o : Output} (ended : LinkEnd) (read : List ℕ)
        → Gives a b read → HasWritten false (length rs) [] (p ++ read) [] ended → HasEndCause false (length rs) (p ++ read) a b o o ended
        → HasCalmSource ended a b → HasCalmSink ended o o → HasCalmEnds ended false a b → HasUnused ended [] → EndsFrom p rs rs a b o o lots ended
    turns_silent {p} {rs} {a} {b} {o} ended read gave writes cause source sink ends used =
        (J, p ++ read, stays, ends_with (state J p rs a o lots) ended read [] [] gave (Draws-none lots) used (Takes-none o) writes cause source sink ends)

    -- a last word was written, or the sink failed at it
    pub turns_in_words : {p : List ℕ} {rs : List Receipt} {a b : Input} {o v : Output} (ended : LinkEnd) (read word : List ℕ) (unused : List Draw) (how : Sent) {lots' : Lots}
        → Gives a b read → Draws lots lots' unused → length unused ≤ 1 → Sends o v word how → IsLastWord false (length rs) (p ++ read) (word ∷ [])
        → length rs < request_limit → HasWritten false (length rs) [] (p ++ read) word ended
        → HasEndCause false (length rs) (p ++ read) a b o v ended → ((calm : v.faults ≡ o.faults) → HasCalmSink ended o v)
        → b.faults ≡ a.faults → HasCalmSource ended a b → b.ends ≡ a.ends → HasCalmEnds ended false a b → HasUnused ended unused
        → EndsFrom p rs rs a b o v lots' (ended_by ended how)
    turns_in_words {p} {rs} {a} {b} {o} {v} ended read word unused how {lots'} gave drew one sends is_word few writes cause sink calm source same ends used = (
      J,
      p ++ read,
      stays,
      ends_in_words (state J p rs a o lots) ended read word unused how gave drew used one sends is_word (omega arith) writes
          (λ _. cause) sink calm source same ends,
    )
