use Rattle.std.proofs.Common.{refl, arith, [], ◌∷◌, sym, append-nil, inr, ◌≡◌, List, ℕ, ◌++◌, ◌∙◌}
use Rattle.es_edge.proofs.DrawLemmas.{Draws-none}
use Rattle.es_wire.specs.declared.receipt.LinkEnd.TheVariants as end
use Rattle.es_session.specs.Legal.{joined}
use Rattle.es_session.specs.Ending.{IsLastWord}
use Rattle.es_drive.proofs.Turning.{turns_on, turns_at_fault, turns_silent, turns_in_words}
use Rattle.es_drive.proofs.Hitting.{tallies_none, tallies_turn, tallies_one}
use Rattle.es_drive.proofs.run.serve_next.Goals as goal

-- the one text that is due
one_text : (word is : List ℕ) → word ≡ is → word ≡ joined ([] ++ is ∷ [])
one_text word is e = e ∙ sym (append-nil is)

pub returns-in-Ended-clause-turn : goal.returns-in-Ended-clause-turn
returns-in-Ended-clause-turn g c = λ w J stands.
    let n = c.in-Ended.ensures.next in
    turns_silent _ w _ J _ _ stands end.Done n.read n.given refl (c.requires.few, inr (refl, n.answers.0, n.answers.1)) n.calm refl tt refl

pub returns-in-Truncated-clause-turn : goal.returns-in-Truncated-clause-turn
returns-in-Truncated-clause-turn g c = λ w J stands.
    let n = c.in-Truncated.ensures.next in
    turns_silent _ w _ J _ _ stands end.Truncated n.read n.given refl ((refl, c.requires.few), n.answers.0, n.answers.1, n.mendable, n.answers.2) n.calm refl tt refl

pub returns-in-ReadFault-clause-turn : goal.returns-in-ReadFault-clause-turn
returns-in-ReadFault-clause-turn g c = λ w J stands.
    let n = c.in-ReadFault.ensures.next in
    turns_silent _ w _ J _ _ stands end.ReadFault n.read n.given refl ((refl, c.requires.few), n.answers.0, n.mendable, n.answers.1) tt refl n.unended refl

pub returns-in-Ok-send-clause-turn : goal.returns-in-Ok-send-clause-turn
returns-in-Ok-send-clause-turn g c = λ w J stands.
    rw c.turn_after.ensures (turns_on _ w _ J _ c.in-Request.ensures.next (c.in-Ok.ensures.ok w J stands) c.in-Ok-send.ensures.sends)

pub returns-in-Request-clause-turn : goal.returns-in-Request-clause-turn
returns-in-Request-clause-turn g c = λ w J stands.
    turns_at_fault _ w _ J _ c.in-Request.ensures.next (c.in-Ok.ensures.ok w J stands) c.in-WriteFault.ensures.sends c.requires.few

pub returns-in-BadHead-clause-turn : goal.returns-in-BadHead-clause-turn
returns-in-BadHead-clause-turn g c = λ w J stands.
    let n = c.in-BadHead.ensures.next in
    let e = c.fixed-in-BadHead.ensures in
    let s = c.last_word-in-BadHead.ensures.word in
    rw s.2
    (turns_in_words _ w _ J _ _ stands end.BadHead n.read _ [] s.0 n.given (Draws-none _) (omega arith) s.1 (rw e (IsLastWord.refusal (refl, c.requires.few) (record { none = n.answers.0; refusal = n.answers.1.1 }))) c.requires.few
    (n.answers.1.0, record { none = n.answers.0; refusal = n.answers.1.1 }, refl, one_text _ _ e) (refl, c.requires.few) (λ calm. calm) n.calm n.calm n.unended n.unended refl)

pub returns-clause-turn : goal.returns-clause-turn
returns-clause-turn g c = λ w J stands.
    let n = c.in-NoMemory.ensures.next in
    let e = c.fixed-in-NoMemory.ensures in
    let s = c.last_word-in-NoMemory.ensures.word in
    rw s.2
    (turns_in_words _ w _ J _ _ stands end.NoMemory n.read _ [] s.0 n.given (Draws-none _) (omega arith) s.1 (rw e (IsLastWord.no_memory (refl, c.requires.few))) c.requires.few (one_text _ _ e) (refl, c.requires.few) (λ calm. calm) n.calm n.calm n.unended n.unended (omega arith))

pub returns-in_default-clause-turn : goal.returns-in_default-clause-turn
returns-in_default-clause-turn g c = λ w J stands.
    let n = c.in-Request.ensures.next in
    let same = c.in_default.ensures.err in
    let e = c.fixed.ensures in
    let s = c.last_word.ensures.word in
    rw (s.2, same.0, same.1)
    (turns_in_words _ w _ J _ _ stands end.NoMemory n.read _ same.2.unused s.0 n.given same.2.drew same.2.few s.1 (rw e (IsLastWord.no_memory (refl, c.requires.few))) c.requires.few (one_text _ _ e) (refl, c.requires.few) (λ calm. calm) n.calm n.calm n.unended n.unended same.2.few)

pub returns-in-Ended-clause-hits : goal.returns-in-Ended-clause-hits
returns-in-Ended-clause-hits g c = tallies_none _ _ _ _ _ _ _ _ c.in-Ended.ensures.next.read c.in-Ended.ensures.next.given refl refl

pub returns-in-Truncated-clause-hits : goal.returns-in-Truncated-clause-hits
returns-in-Truncated-clause-hits g c = tallies_none _ _ _ _ _ _ _ _ c.in-Truncated.ensures.next.read c.in-Truncated.ensures.next.given refl refl

pub returns-in-ReadFault-clause-hits : goal.returns-in-ReadFault-clause-hits
returns-in-ReadFault-clause-hits g c = tallies_none _ _ _ _ _ _ _ _ c.in-ReadFault.ensures.next.read c.in-ReadFault.ensures.next.given refl refl

pub returns-in-Ok-send-clause-hits : goal.returns-in-Ok-send-clause-hits
returns-in-Ok-send-clause-hits g c = rw c.turn_after.ensures (tallies_turn c.in-Request.ensures.next c.in-Ok.ensures.hits)

pub returns-in-Request-clause-hits : goal.returns-in-Request-clause-hits
returns-in-Request-clause-hits g c = tallies_one c.in-Request.ensures.next c.in-Ok.ensures.hits

pub returns-in-BadHead-clause-hits : goal.returns-in-BadHead-clause-hits
returns-in-BadHead-clause-hits g c =
    rw c.last_word-in-BadHead.ensures.word.2 (tallies_none _ _ _ _ _ _ _ _ c.in-BadHead.ensures.next.read c.in-BadHead.ensures.next.given refl refl)

pub returns-clause-hits : goal.returns-clause-hits
returns-clause-hits g c =
    rw c.last_word-in-NoMemory.ensures.word.2 (tallies_none _ _ _ _ _ _ _ _ c.in-NoMemory.ensures.next.read c.in-NoMemory.ensures.next.given refl refl)

pub returns-in_default-clause-hits : goal.returns-in_default-clause-hits
returns-in_default-clause-hits g c =
    rw c.last_word.ensures.word.2
    (tallies_none _ _ _ _ _ _ _ _ c.in-Request.ensures.next.read c.in-Request.ensures.next.given c.in_default.ensures.err.1 c.in_default.ensures.uncounted)
