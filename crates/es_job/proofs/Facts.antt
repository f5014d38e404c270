-- What stops a call, and what is due, by what its look found.
use Rattle.std.proofs.Common.{◌≡◌, ℕ, ◌<◌, ◌≤◌, List, Bool, true, false, ◌&&◌, not, Option, Some, None, is_some, refl, sym, ap, ◌∙◌}
use Rattle.std.specs.Prelude.{nat_le, if◌then◌else◌}
use Rattle.std.specs.Option.{option_or}
use Rattle.std.proofs.lemmas.Bool.{lt-leb, le-leb, leb-true}
use Rattle.es_response.specs.Reply.{ReplyValue}
use Rattle.es_reply.specs.Bodies.{place_not_reached, unauthorized}
use Rattle.es_keys.specs.declared.kinds.Subject.{Subject}
use Rattle.es_keys.specs.Subjects.{caller_text, subject_text}
use Rattle.es_decide.specs.declared.kinds.Halves.{Halves}
use Rattle.es_decide.specs.Decisions as decisions
use Rattle.es_records.specs.Records.{RecordsValue, who}
use Rattle.es_records.specs.Halves.{halves_in}
use Rattle.es_request.specs.declared.call.Call.{Call}
use Rattle.es_request.specs.Requests.{is_change}
use Rattle.es_request.specs.Needs.{Need, nothing, on_index, on_cluster, need_of}
use Rattle.es_vault.specs.declared.look.Snapshot.{Snapshot}
use Rattle.es_vault.specs.World.{World}
use Rattle.es_vault.specs.Decision.{no_caller, no_run_as, denied, denied_cluster, granted, decision, decided_for, decided_by, decided_need, name_asked, denial_of}
use Rattle.es_job.specs.Answer.{static_of, not_reached, stop_in, is_due, read_in, read_for, reply_or, shown_in}
use Rattle.es_job.specs.Steps.{changing, ended, world_of, next_of}
use Rattle.es_job.specs.Job.{IsLooked, unknown_at}

-- ---- a decision that denies nothing grants

granted_need : (subject : Subject) (halves : Halves) (need : Need) → denial_of (decided_need subject halves need) ≡ None → decided_need subject halves need ≡ granted subject
granted_need subject halves nothing none = refl
granted_need subject halves (on_index action index) none = either (decisions.granted subject halves action index) none
  where
    either : (b : Bool) → denial_of (if b then granted subject else denied (subject_text subject) action index) ≡ None → (if b then granted subject else denied (subject_text subject) action index) ≡ granted subject
    either true none = refl
    either false none = cc none
granted_need subject halves (on_cluster action) none = either (decisions.granted_cluster subject halves action) none
  where
    either : (b : Bool) → denial_of (if b then granted subject else denied_cluster (subject_text subject) action) ≡ None → (if b then granted subject else denied_cluster (subject_text subject) action) ≡ granted subject
    either true none = refl
    either false none = cc none

granted_by : (subject : Subject) (halves : Halves) (run_as : Option (List ℕ)) (need : Need) → denial_of (decided_by subject halves run_as need) ≡ None → decided_by subject halves run_as need ≡ granted subject
granted_by subject halves run_as need none = either (decisions.runs_as subject halves) none
  where
    either : (b : Bool) → denial_of (if b then decided_need subject halves need else no_run_as (caller_text subject.caller) (name_asked run_as)) ≡ None
        → (if b then decided_need subject halves need else no_run_as (caller_text subject.caller) (name_asked run_as)) ≡ granted subject
    either true none = granted_need subject halves need none
    either false none = cc none

-- ---- the first that there is

first_none : (o d : Option ReplyValue) → option_or o d ≡ None → o ≡ None
first_none None d none = refl
first_none (Some r) d none = none

second_none : (o d : Option ReplyValue) → option_or o d ≡ None → d ≡ None
second_none None d none = none
second_none (Some r) d none = cc none

within : (b : Bool) (r : ReplyValue) → (if b then None else Some r) ≡ None → b ≡ true
within true r none = refl
within false r none = cc none

module _ (call : Call) (s : Snapshot) (looked : IsLooked call s) where
  -- what is decided of the subject that the look found
  pub decided : decision s.records call ≡ decided_by s.subject (halves_in s.records s.subject) call.run_as (need_of call.request)
  unfolding decision
  decided = ap (decided_for s.records call.run_as (need_of call.request)) looked.known

  stops : stop_in s.records s.place call ≡ option_or (not_reached s.place call.seen) (denial_of (decision s.records call))
  unfolding stop_in
  stops = ap (λ own. option_or own (option_or (not_reached s.place call.seen) (denial_of (decision s.records call)))) looked.own

  -- a place that isn't reached stops it
  pub behind : s.place < call.seen → stop_in s.records s.place call ≡ Some (place_not_reached s.place call.seen)
  behind less =
      stops ∙ ap (λ b. option_or (if b then None else Some (place_not_reached s.place call.seen)) (denial_of (decision s.records call))) (lt-leb call.seen s.place less)

  -- at one that is, a denial does
  reached : call.seen ≤ s.place → stop_in s.records s.place call ≡ denial_of (decision s.records call)
  reached least =
      stops ∙ ap (λ b. option_or (if b then None else Some (place_not_reached s.place call.seen)) (denial_of (decision s.records call))) (le-leb call.seen s.place least)

  -- the same by the halves at hand
  pub allowed_stop : (halves : Halves) → halves ≡ halves_in s.records s.subject → call.seen ≤ s.place → (stop : Option ReplyValue)
      → denial_of (decided_by s.subject halves call.run_as (need_of call.request)) ≡ stop → stop ≡ stop_in s.records s.place call
  allowed_stop halves are least stop is =
      sym (reached least ∙ ap denial_of (decided ∙ ap (λ h. decided_by s.subject h call.run_as (need_of call.request)) (sym are)) ∙ is)

  -- a call that nothing stops is granted, at a place that is reached
  pub granted_there : stop_in s.records s.place call ≡ None → decision s.records call ≡ granted s.subject
  granted_there none =
      decided ∙ granted_by s.subject (halves_in s.records s.subject) call.run_as (need_of call.request) (ap denial_of (sym decided) ∙ second_none (not_reached s.place call.seen) _ (sym stops ∙ none))

  pub reached_there : stop_in s.records s.place call ≡ None → call.seen ≤ s.place
  reached_there none = leb-true call.seen s.place (within (nat_le call.seen s.place) _ (first_none (not_reached s.place call.seen) _ (sym stops ∙ none)))

  -- ---- where the call is then

  -- it is stopped
  pub ends_stopped : (reply : ReplyValue) → Some reply ≡ stop_in s.records s.place call → next_of s call ≡ ended s.place false reply
  unfolding shown_in
  ends_stopped reply is =
      sym (ap (λ stop. if is_change call.request && not (is_some stop) then changing s else ended s.place false (reply_or stop (read_for (world_of s) call.request (decision s.records call)))) is)
      ∙ never (is_change call.request)
    where
      never : (b : Bool) → (if b && false then changing s else ended s.place false reply) ≡ ended s.place false reply
      never true = refl
      never false = refl

  -- a change is due
  pub due_there : None ≡ stop_in s.records s.place call → is_change call.request ≡ true → is_due s.records s.place call ≡ true
  due_there is change = sym (ap (λ stop. is_change call.request && not (is_some stop)) is) ∙ ap (λ b. b && true) change

  pub changes_there : is_due s.records s.place call ≡ true → next_of s call ≡ changing s
  changes_there is = ap (λ b. if b then changing s else ended s.place false (shown_in (world_of s) s.place call)) is

  -- a read shows what it does
  pub ends_read : (halves : Halves) → halves ≡ halves_in s.records s.subject → (reply : ReplyValue) → None ≡ stop_in s.records s.place call → is_change call.request ≡ false
      → reply ≡ read_in (world_of s) s.subject halves call.request → next_of s call ≡ ended s.place false reply
  unfolding shown_in
  ends_read halves are reply is none read =
      ap (λ b. if b && not (is_some (stop_in s.records s.place call)) then changing s else ended s.place false (shown_in (world_of s) s.place call)) none
      ∙ ap (ended s.place false)
      (sym (ap (λ stop. reply_or stop (read_for (world_of s) call.request (decision s.records call))) is)
      ∙ ap (read_for (world_of s) call.request) (granted_there (sym is))
      ∙ ap (λ h. read_in (world_of s) s.subject h call.request) (sym are)
      ∙ sym read)

-- a due change isn't stopped
pub due_open : (records : RecordsValue) (place : ℕ) (call : Call) → is_due records place call ≡ true → stop_in records place call ≡ None
due_open records place call is = either (is_change call.request) (stop_in records place call) is
  where
    either : (b : Bool) (stop : Option ReplyValue) → (b && not (is_some stop)) ≡ true → stop ≡ None
    either b None is = refl
    either true (Some r) is = cc is
    either false (Some r) is = cc is

-- and is a change
pub due_changes : (records : RecordsValue) (place : ℕ) (call : Call) → is_due records place call ≡ true → is_change call.request ≡ true
due_changes records place call is = either (is_change call.request) (not (is_some (stop_in records place call))) is
  where
    either : (b c : Bool) → (b && c) ≡ true → b ≡ true
    either true c is = refl
    either false c is = is

-- what is shown to one who isn't known
pub shown_unknown : (w : World) (place : ℕ) (call : Call) → static_of call.request ≡ None → who w.records call.credentials call.run_as call.moment ≡ None → unknown_at place call ≡ shown_in w place call
unfolding shown_in stop_in decision
shown_unknown w place call own unknown =
    first (not_reached place call.seen)
    ∙ sym (ap (λ o. reply_or (option_or o (option_or (not_reached place call.seen) (denial_of (decision w.records call)))) (read_for w call.request (decision w.records call))) own
    ∙ ap (λ found. reply_or (option_or (not_reached place call.seen) (denial_of (decided_for w.records call.run_as (need_of call.request) found))) (read_for w call.request (decided_for w.records call.run_as (need_of call.request) found))) unknown)
  where
    first : (o : Option ReplyValue) → reply_or o unauthorized ≡ reply_or (option_or o (Some unauthorized)) (read_for w call.request no_caller)
    first None = refl
    first (Some r) = refl
