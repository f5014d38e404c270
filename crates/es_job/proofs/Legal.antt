-- What a call is answered where it ends.
use Rattle.std.proofs.Common.{◌≡◌, ℕ, ◌+◌, ◌<◌, ◌≤◌, List, length, take, Bool, true, false, ◌&&◌, not, Option, Some, None, is_some, refl, sym, ap, subst, ◌∙◌, arith}
use Rattle.std.specs.Prelude.{if◌then◌else◌, nat_le}
use Rattle.std.specs.Option.{option_or}
use Rattle.std.proofs.lemmas.Bool.{le-leb, leb-true}
use Rattle.std.proofs.lemmas.List.{length-take-le}
use Rattle.es_response.specs.Reply.{ReplyValue}
use Rattle.es_reply.specs.Bodies.{place_not_reached}
use Rattle.es_journal.specs.Journal.{told_at}
use Rattle.es_records.specs.Records.{RecordsValue, who}
use Rattle.es_request.specs.declared.call.Call.{Call}
use Rattle.es_request.specs.Requests.{is_change}
use Rattle.es_request.specs.Needs.{need_of}
use Rattle.es_vault.specs.Decision.{Decision, no_caller, no_run_as, denied, denied_cluster, granted, decision, decided_for, denial_of}
use Rattle.es_vault.specs.World.{World, Entry, PlacedWorld, replay, weight_of}
use Rattle.es_vault.specs.Changes.{Verdict, refuses, accepts, undrawn, verdict_in}
use Rattle.es_vault.specs.Replayable.{FitsAt}
use Rattle.es_vault.specs.Steps.{VerdictFits}
use Rattle.es_vault.specs.Answer as change
use Rattle.es_vault.specs.Answer.{Asked, IsMade, Outcome, accepted, full, unless_full, outcome_of, outcome_for, change_in, told}
use Rattle.es_vault.proofs.Verdicts.{verdict_fits}
use Rattle.es_job.specs.Answer.{Answer, refused, told_unless, static_of, not_reached, stop_in, read_for, answer_in, answer, is_due, reply_or, shown_in}
use Rattle.es_job.specs.Core.{IsLegal}

-- ---- what stops a call

module _ (limit : ℕ) (at : PlacedWorld) (asked : Asked) where
  either_told : (stop : Option ReplyValue) (changes : Bool) (outcome : Outcome) (reply : ReplyValue) → (changes && not (is_some stop)) ≡ false
      → told_unless stop (if changes then told outcome else refused reply) ≡ refused (reply_or stop reply)
  either_told (Some stop) changes outcome reply due = refl
  either_told None true outcome reply due = cc due
  either_told None false outcome reply due = refl

  -- a call for which no change is due is told what it is shown
  pub told_shown : is_due at.world.records at.place asked.call ≡ false → answer_in limit at asked ≡ refused (shown_in at.world at.place asked.call)
  unfolding answer_in shown_in
  told_shown due =
      either_told (stop_in at.world.records at.place asked.call) (is_change asked.call.request) (change_in limit at asked) (read_for at.world asked.call.request (decision at.world.records asked.call)) due

  decided_told : (d : Decision) → told_unless (denial_of d) (told (outcome_for limit at asked d)) ≡ told (outcome_for limit at asked d)
  decided_told no_caller = refl
  decided_told (no_run_as caller target) = refl
  decided_told (denied subject action index) = refl
  decided_told (denied_cluster subject action) = refl
  decided_told (granted subject) = refl

  -- a change that isn't refused by its own text, at a place that is reached, is told what comes of it
  pub told_changed : static_of asked.call.request ≡ None → is_change asked.call.request ≡ true → not_reached at.place asked.call.seen ≡ None → answer_in limit at asked ≡ told (change_in limit at asked)
  unfolding answer_in stop_in change_in
  told_changed own changes reached =
      (λ i. told_unless (option_or (own i) (option_or (reached i) (denial_of (decision at.world.records asked.call))))
      (if changes i then told (outcome_for limit at asked (decision at.world.records asked.call)) else refused (read_for at.world asked.call.request (decision at.world.records asked.call))))
      ∙ decided_told (decision at.world.records asked.call)

module _ (records : RecordsValue) (place : ℕ) (call : Call) where
  stopped_due : (stop : Option ReplyValue) (changes : Bool) → is_some stop ≡ true → (changes && not (is_some stop)) ≡ false
  stopped_due None changes some = cc some
  stopped_due (Some reply) true some = refl
  stopped_due (Some reply) false some = refl

  or_some : (stop : Option ReplyValue) (reply : ReplyValue) → is_some (option_or stop (Some reply)) ≡ true
  or_some None reply = refl
  or_some (Some stop) reply = refl

  -- of a call that is refused by its own text no change is due, nor of one of a caller that isn't known
  pub own_due : (reply : ReplyValue) → static_of call.request ≡ Some reply → is_due records place call ≡ false
  unfolding stop_in
  own_due reply own =
      stopped_due (stop_in records place call) (is_change call.request) (ap (λ o. is_some (option_or o (option_or (not_reached place call.seen) (denial_of (decision records call))))) own)

  pub own_shown : (w : World) → w.records ≡ records → (reply : ReplyValue) → static_of call.request ≡ Some reply → shown_in w place call ≡ reply
  unfolding shown_in stop_in
  own_shown w is reply own = ap (λ o. reply_or (option_or o (option_or (not_reached place call.seen) (denial_of (decision w.records call)))) (read_for w call.request (decision w.records call))) own

  or_twice : (one two : Option ReplyValue) (reply : ReplyValue) → is_some (option_or one (option_or two (Some reply))) ≡ true
  or_twice None two reply = or_some two reply
  or_twice (Some one) two reply = refl

  pub unknown_due : who records call.credentials call.run_as call.moment ≡ None → is_due records place call ≡ false
  unfolding stop_in decision
  unknown_due unknown =
      stopped_due (stop_in records place call) (is_change call.request)
      (ap (λ o. is_some (option_or (static_of call.request) (option_or (not_reached place call.seen) (denial_of (decided_for records call.run_as (need_of call.request) o))))) unknown
      ∙ or_twice (static_of call.request) (not_reached place call.seen) _)

  due_parts : (stop : Option ReplyValue) (changes : Bool) → (changes && not (is_some stop)) ≡ true → (changes ≡ true) × (stop ≡ None)
  due_parts None true due = (refl, refl)
  due_parts None false due = cc due
  due_parts (Some reply) true due = cc due
  due_parts (Some reply) false due = cc due

  -- a change is due where nothing stops it
  pub due_is : is_due records place call ≡ true → (is_change call.request ≡ true) × (stop_in records place call ≡ None)
  due_is due = due_parts (stop_in records place call) (is_change call.request) due

  first_none : (one two : Option ReplyValue) → option_or one two ≡ None → one ≡ None
  first_none None two none = refl
  first_none (Some one) two none = cc none

  seen_by_then : (b : Bool) → nat_le call.seen place ≡ b → (if b then None else Some (place_not_reached place call.seen)) ≡ None → call.seen ≤ place
  seen_by_then true is none = leb-true call.seen place is
  seen_by_then false is none = cc none

  -- then its place is reached, and so is each later one
  pub due_reached : static_of call.request ≡ None → is_due records place call ≡ true → (later : ℕ) → place ≤ later → not_reached later call.seen ≡ None
  unfolding stop_in
  due_reached own due later after =
      let stop : option_or (not_reached place call.seen) (denial_of (decision records call)) ≡ None =
      ap (λ o. option_or o (option_or (not_reached place call.seen) (denial_of (decision records call)))) (sym own) ∙ (due_is due).1 in
      let least = seen_by_then (nat_le call.seen place) refl (first_none (not_reached place call.seen) (denial_of (decision records call)) stop) in
      ap (λ b. if b then None else Some (place_not_reached later call.seen)) (le-leb call.seen later (omega (arith, least, after)))

-- ---- what is accepted

module _ (limit : ℕ) (at : PlacedWorld) (asked : Asked) (reply : ReplyValue) (e : Entry) where
  abbrev Fitting : Type 0
  Fitting = (full limit at e.weight ≡ None) × FitsAt (at.place + 1) e.change

  no_entry : (o : Option ReplyValue) (other : ReplyValue) → unless_full o (change.refused other) ≡ accepted reply e → Fitting
  no_entry None other is = cc is
  no_entry (Some stop) other is = cc is

  entry_is : (o : Option ReplyValue) (other : ReplyValue) (x : Entry) → full limit at x.weight ≡ o → FitsAt (at.place + 1) x.change → unless_full o (accepted other x) ≡ accepted reply e → Fitting
  entry_is None other x room fits is =
      let same : x ≡ e = cc is in subst (λ (y : Entry). (full limit at y.weight ≡ None) × FitsAt (at.place + 1) y.change) same (room, fits)
  entry_is (Some stop) other x room fits is = cc is

  verdict_entry : (verdict : Verdict) → VerdictFits (at.place + 1) verdict → outcome_of limit at asked verdict ≡ accepted reply e → Fitting
  verdict_entry (refuses other) fits is = cc is
  verdict_entry (accepts other c) fits is = entry_is (full limit at asked.call.weight) other (record { caller = asked.caller; weight = asked.call.weight; change = c }) refl fits is
  verdict_entry undrawn fits is = no_entry (full limit at asked.call.weight) _ is

  decided_entry : (d : Decision) → IsMade asked.call → outcome_for limit at asked d ≡ accepted reply e → Fitting
  decided_entry no_caller made is = cc is
  decided_entry (no_run_as caller target) made is = cc is
  decided_entry (denied subject action index) made is = cc is
  decided_entry (denied_cluster subject action) made is = cc is
  decided_entry (granted subject) made is =
      verdict_entry (verdict_in at.world (at.place + 1) subject asked.call.moment asked.call.draw asked.call.request)
      (verdict_fits at.world (at.place + 1) subject asked.call.moment asked.call.draw asked.call.request made.moment made.timely) is

  -- there is room for the entry of a change that is accepted, and it fits at its place
  pub entry_fits : IsMade asked.call → change_in limit at asked ≡ accepted reply e → (full limit at e.weight ≡ None) × FitsAt (at.place + 1) e.change
  unfolding change_in
  entry_fits made is = decided_entry (decision at.world.records asked.call) made is

-- ---- a call that ends without an entry, at a place

pub legal_unchanged : (limit : ℕ) (w : World) (J : List Entry) (asked : Asked) (place : ℕ) (reply : ReplyValue) → 0 < place → place ≤ length J → answer limit w (take place J) asked ≡ refused reply
    → IsLegal limit w J (record { asked = asked; place = place; changed = false; reply = reply })
unfolding told_at
legal_unchanged limit w J asked place reply from to is = record {
  legal = record { from = from; to = to; entry = ap (λ (t : Answer). t.entry) is; stands = λ t. cc t };
  reply = sym (ap (λ (t : Answer). t.reply) is);
}

module _ (limit : ℕ) (w : World) (J : List Entry) (asked : Asked) (v : World) (place : ℕ) (from : 0 < place) (to : place ≤ length J) (is : v ≡ replay w (take place J)) where
  answered_there : answer limit w (take place J) asked ≡ answer_in limit (record { world = v; place = place; weight = weight_of (take place J) }) asked
  unfolding answer
  answered_there = λ i. answer_in limit (record { world = sym is i; place = length-take-le place J to i; weight = weight_of (take place J) }) asked

  -- it is legal in the world after the entries up to there
  pub legal_shown : (reply : ReplyValue) → is_due v.records place asked.call ≡ false → reply ≡ shown_in v place asked.call → IsLegal limit w J (record { asked = asked; place = place; changed = false; reply = reply })
  legal_shown reply due shown =
      legal_unchanged limit w J asked place reply from to
      (answered_there ∙ told_shown limit (record { world = v; place = place; weight = weight_of (take place J) }) asked due ∙ ap refused (sym shown))
