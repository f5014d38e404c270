-- A call that is run alone: where each of its steps leaves it.
use Rattle.std.proofs.Common.{◌≡◌, ◌≢◌, ℕ, ◌<◌, Bool, true, false, List, [], ◌∷◌, Option, Some, None, is_some, refl, sym, ap, subst, ◌∙◌, arith, inl, inr, IsTrue, ◌↔◌, if◌then◌else◌}
use Rattle.std.specs.Prelude.{◌==◌, Result, Ok, Err, OnErr}
use Rattle.es_response.specs.Reply.{ReplyValue}
use Rattle.es_keys.specs.declared.kinds.RoleKey.{RoleKey}
use Rattle.es_keys.specs.declared.kinds.Subject.{Subject}
use Rattle.es_keys.specs.Halves.{halves_of}
use Rattle.es_records.specs.Records.{who}
use Rattle.es_records.specs.Halves.{roles_of}
use Rattle.es_request.specs.declared.call.Call.{Call}
use Rattle.es_vault.specs.declared.look.Snapshot.{Snapshot}
use Rattle.es_vault.specs.Decision.{decision}
use Rattle.es_vault.specs.World.{PlacedWorld, advanced}
use Rattle.es_vault.specs.Answer.{Asked, Outcome, refused, overfull, accepted, change_in, told}
use Rattle.es_vault.specs.Vault.{VaultValue, has_all, brought_all, with_roles, with_role}
use Rattle.es_vault.specs.Steps.{snapshot_for}
use Rattle.es_job.specs.declared.note.NextStep.{NextStep}
use Rattle.es_job.specs.declared.note.NextStep.TheVariants as next
use Rattle.es_job.specs.Answer as answers
use Rattle.es_job.specs.Answer.{Answer, answer_in, told_unless, static_of, not_reached, stop_in, is_due, reply_or, shown_in, read_for}
use Rattle.es_job.specs.Steps.{Phase, begun, publishing, changing, ended, Stepped, world_of, next_of, next_with, first_step, look_step, found_step, publish_step, change_step, step_of, ready_after, next_step_of, steps_left, IsPast, HoldsPast}
use Rattle.es_job.specs.Job.{JobValue}
use Rattle.es_job.proofs.Legal.{told_shown, own_due, own_shown, unknown_due, due_is}
use Rattle.es_job.proofs.Fewer.{step_left}
use Rattle.es_drive.specs.Alone.{IsAnswered, IsPresent, IsAloneAt, IsStepped, IsLeft, RunsAlone, world_after}

module _ (at : PlacedWorld) where
  past_of : (vault : VaultValue) (s : Snapshot) → vault.at ≡ at → IsPresent at vault.roles.count s → IsPast s vault
  past_of vault s same present =
      let here : s.place ≡ vault.at.place = present.place ∙ sym (ap (λ (x : PlacedWorld). x.place) same) in
      let count = present.count in
      record { place = omega arith; count = omega arith; same = λ _. present.records ∙ sym (ap (λ (x : PlacedWorld). x.world.records) same) }

module _ (limit : ℕ) (at : PlacedWorld) (asked : Asked) where
  abbrev due : Bool
  due = is_due at.world.records at.place asked.call

  -- a call of which a change is due is told what comes of the change
  change_told : due ≡ true → answer_in limit at asked ≡ told (change_in limit at asked)
  unfolding answer_in
  change_told e =
      let parts = due_is at.world.records at.place asked.call e in
      λ i. told_unless (parts.1 i) (if parts.0 i then told (change_in limit at asked) else answers.refused (read_for at.world asked.call.request (decision at.world.records asked.call)))

  module _ (vault : VaultValue) (same : vault.at ≡ at) where
    -- the end of a call of which no change is due
    shown_ends : (place : ℕ) (reply : ReplyValue) → due ≡ false → place ≡ at.place → reply ≡ shown_in at.world at.place asked.call → IsAnswered (answer_in limit at asked) place reply false at vault.at
    shown_ends place reply e here is = record {
      reply_is = is ∙ sym (ap (λ (t : Answer). t.reply) (told_shown limit at asked e));
      changed_is = sym (ap (λ (t : Answer). is_some t.entry) (told_shown limit at asked e));
      world = same ∙ sym (ap (λ (t : Answer). world_after at t.entry) (told_shown limit at asked e));
      place_is = here ∙ sym (ap (λ (x : PlacedWorld). x.place) same);
    }

    module _ (s : Snapshot) (present : IsPresent at vault.roles.count s) where
      due_now : is_due s.records s.place asked.call ≡ due
      due_now = λ i. is_due (present.records i) (present.place i) asked.call

      shown_is : shown_in (world_of s) s.place asked.call ≡ shown_in at.world at.place asked.call
      shown_is = λ i. shown_in (record { records = present.records i; catalog = present.catalog i }) (present.place i) asked.call

      -- what is next when each half is at hand
      next_by : (b : Bool) → is_due s.records s.place asked.call ≡ b → IsAloneAt limit at asked vault (if b then changing s else ended s.place false (shown_in (world_of s) s.place asked.call))
      unfolding IsAloneAt
      next_by true e = (same, present, sym due_now ∙ e)
      next_by false e = shown_ends s.place (shown_in (world_of s) s.place asked.call) (sym due_now ∙ e) present.place shown_is

      next_alone : IsAloneAt limit at asked vault (next_of s asked.call)
      next_alone = next_by (is_due s.records s.place asked.call) refl

      with_alone : (keys : List RoleKey) → IsAloneAt limit at asked vault (next_with s keys asked.call)
      unfolding IsAloneAt
      with_alone [] = next_alone
      with_alone (key ∷ keys) = (same, present)

    -- the vault's present world, for a subject
    present_for : (subject : Subject) → IsPresent at vault.roles.count (snapshot_for vault subject)
    present_for subject = record {
      records = ap (λ (x : PlacedWorld). x.world.records) same;
      catalog = ap (λ (x : PlacedWorld). x.world.catalog) same;
      place = ap (λ (x : PlacedWorld). x.place) same;
      count = refl;
    }

    -- a request that is refused by its own text
    own_ends : (reply : ReplyValue) → static_of asked.call.request ≡ Some reply → IsAnswered (answer_in limit at asked) vault.at.place reply false at vault.at
    own_ends reply own =
        shown_ends vault.at.place reply (own_due at.world.records at.place asked.call reply own) (ap (λ (x : PlacedWorld). x.place) same) (sym (own_shown at.world.records at.place asked.call at.world refl reply own))

    -- a caller that nobody knows
    unknown_ends : who vault.at.world.records asked.call.credentials asked.call.run_as asked.call.moment ≡ None
        → IsAnswered (answer_in limit at asked) vault.at.place (shown_in vault.at.world vault.at.place asked.call) false at vault.at
    unknown_ends none =
        let known : who at.world.records asked.call.credentials asked.call.run_as asked.call.moment ≡ None =
        sym (ap (λ (x : PlacedWorld). who x.world.records asked.call.credentials asked.call.run_as asked.call.moment) same) ∙ none in
        shown_ends vault.at.place (shown_in vault.at.world vault.at.place asked.call) (unknown_due at.world.records at.place asked.call known) (ap (λ (x : PlacedWorld). x.place) same)
        (ap (λ (x : PlacedWorld). shown_in x.world x.place asked.call) same)

  module _ (vault : VaultValue) (same : vault.at ≡ at) where
    -- where a step leaves the call: at the vault after it
    abbrev After : Stepped → Type 0
    After stepped = IsAloneAt limit at asked stepped.vault stepped.phase

    found_alone : (subject : Subject) (hit : Bool) → After (found_step vault asked.call (snapshot_for vault subject) hit)
    unfolding IsAloneAt
    found_alone subject true = next_alone (with_roles vault (brought_all (halves_of subject) vault.roles.entries)) same (snapshot_for vault subject) (present_for vault same subject)
    found_alone subject false = (same, present_for vault same subject)

    look_alone : (found : Option Subject) → who vault.at.world.records asked.call.credentials asked.call.run_as asked.call.moment ≡ found → After (look_step vault asked.call found)
    unfolding IsAloneAt
    look_alone None e = unknown_ends vault same e
    look_alone (Some subject) e = found_alone subject (has_all vault.roles.entries (halves_of subject))

    first_alone : (own : Option ReplyValue) → static_of asked.call.request ≡ own → After (first_step vault asked.call own)
    unfolding IsAloneAt
    first_alone (Some reply) e = own_ends vault same reply e
    first_alone None e = look_alone (who vault.at.world.records asked.call.credentials asked.call.run_as asked.call.moment) refl

    publish_alone : (s : Snapshot) (key : RoleKey) (keys : List RoleKey) (fresh : Bool) → IsPresent at vault.roles.count s → After (publish_step vault asked.call s key keys fresh)
    unfolding IsAloneAt
    publish_alone s key keys true present = with_alone (with_role vault key (roles_of s.records key)) same s present keys
    publish_alone s key keys false present = with_alone vault same s present keys

    change_alone : (outcome : Outcome) → due ≡ true → change_in limit at asked ≡ outcome → After (change_step vault outcome)
    unfolding IsAloneAt
    change_alone (refused reply) e is =
        let t : answer_in limit at asked ≡ told (refused reply) = change_told e ∙ ap told is in
        record { reply_is = sym (ap (λ (x : Answer). x.reply) t); changed_is = sym (ap (λ (x : Answer). is_some x.entry) t); world = same ∙ sym (ap (λ (x : Answer). world_after at x.entry) t); place_is = refl }
    change_alone (overfull reply) e is =
        let t : answer_in limit at asked ≡ told (overfull reply) = change_told e ∙ ap told is in
        record { reply_is = sym (ap (λ (x : Answer). x.reply) t); changed_is = sym (ap (λ (x : Answer). is_some x.entry) t); world = same ∙ sym (ap (λ (x : Answer). world_after at x.entry) t); place_is = refl }
    change_alone (accepted reply entry) e is =
        let t : answer_in limit at asked ≡ told (accepted reply entry) = change_told e ∙ ap told is in
        record {
          reply_is = sym (ap (λ (x : Answer). x.reply) t);
          changed_is = sym (ap (λ (x : Answer). is_some x.entry) t);
          world = ap (λ (x : PlacedWorld). advanced x entry) same ∙ sym (ap (λ (x : Answer). world_after at x.entry) t);
          place_is = refl;
        }

  -- the next step leaves it where a call that is run alone may be
  pub step_alone : (vault : VaultValue) (phase : Phase) → vault.limit ≡ limit → IsAloneAt limit at asked vault phase → IsAloneAt limit at asked (step_of vault asked phase).vault (step_of vault asked phase).phase
  unfolding IsAloneAt step_of
  step_alone vault begun is here = first_alone vault here (static_of asked.call.request) refl
  step_alone vault (publishing s []) is here = next_alone vault here.0 s here.1
  step_alone vault (publishing s (key ∷ keys)) is here = publish_alone vault here.0 s key keys (s.count == vault.roles.count) here.1
  step_alone vault (changing s) is here = change_alone vault here.0 (change_in vault.limit vault.at asked) here.2 (λ i. change_in (sym is i) (sym here.0 i) asked)
  step_alone vault (ended place changed reply) is here = here

  -- what it holds is past
  pub past_alone : (vault : VaultValue) (phase : Phase) → IsAloneAt limit at asked vault phase → HoldsPast phase vault
  unfolding IsAloneAt
  past_alone vault begun here = tt
  past_alone vault (publishing s keys) here = past_of at vault s here.0 here.1
  past_alone vault (changing s) here = past_of at vault s here.0 here.1
  past_alone vault (ended place changed reply) here = tt

  -- before its end nothing was changed
  pub before_end : (vault : VaultValue) (phase : Phase) → next_step_of asked.call phase ≢ next.Done → IsAloneAt limit at asked vault phase → vault.at ≡ at
  unfolding IsAloneAt
  before_end vault begun going here = here
  before_end vault (publishing s keys) going here = here.0
  before_end vault (changing s) going here = here.0
  before_end vault (ended place changed reply) going here = absurd (going refl)

-- a step after which local work is due changed nothing
module _ (vault : VaultValue) (asked : Asked) where
  abbrev Waits : Stepped → Type 0
  Waits stepped = ready_after stepped.note stepped.phase ≡ false → stepped.vault.at ≡ vault.at

  found_waits : (s : Snapshot) (hit : Bool) → Waits (found_step vault asked.call s hit)
  found_waits s true e = refl
  found_waits s false e = refl

  look_waits : (found : Option Subject) → Waits (look_step vault asked.call found)
  look_waits None e = refl
  look_waits (Some subject) e = found_waits (snapshot_for vault subject) (has_all vault.roles.entries (halves_of subject)) e

  first_waits : (own : Option ReplyValue) → Waits (first_step vault asked.call own)
  first_waits (Some reply) e = refl
  first_waits None e = look_waits (who vault.at.world.records asked.call.credentials asked.call.run_as asked.call.moment) e

  publish_waits : (s : Snapshot) (key : RoleKey) (keys : List RoleKey) (fresh : Bool) → Waits (publish_step vault asked.call s key keys fresh)
  publish_waits s key keys true e = refl
  publish_waits s key keys false e = refl

  change_waits : (outcome : Outcome) → Waits (change_step vault outcome)
  change_waits (refused reply) e = refl
  change_waits (overfull reply) e = refl
  change_waits (accepted reply entry) e = cc e

  pub step_waits : (phase : Phase) → Waits (step_of vault asked phase)
  unfolding step_of
  step_waits begun e = first_waits (static_of asked.call.request) e
  step_waits (publishing s []) e = refl
  step_waits (publishing s (key ∷ keys)) e = publish_waits s key keys (s.count == vault.roles.count) e
  step_waits (changing s) e = change_waits (change_in vault.limit vault.at asked) e
  step_waits (ended place changed reply) e = refl

  -- the limit stays
  abbrev Limits : Stepped → Type 0
  Limits stepped = stepped.vault.limit ≡ vault.limit

  found_limits : (s : Snapshot) (hit : Bool) → Limits (found_step vault asked.call s hit)
  found_limits s true = refl
  found_limits s false = refl

  look_limits : (found : Option Subject) → Limits (look_step vault asked.call found)
  look_limits None = refl
  look_limits (Some subject) = found_limits (snapshot_for vault subject) (has_all vault.roles.entries (halves_of subject))

  first_limits : (own : Option ReplyValue) → Limits (first_step vault asked.call own)
  first_limits (Some reply) = refl
  first_limits None = look_limits (who vault.at.world.records asked.call.credentials asked.call.run_as asked.call.moment)

  publish_limits : (s : Snapshot) (key : RoleKey) (keys : List RoleKey) (fresh : Bool) → Limits (publish_step vault asked.call s key keys fresh)
  publish_limits s key keys true = refl
  publish_limits s key keys false = refl

  change_limits : (outcome : Outcome) → Limits (change_step vault outcome)
  change_limits (refused reply) = refl
  change_limits (overfull reply) = refl
  change_limits (accepted reply entry) = refl

  pub step_limits : (phase : Phase) → Limits (step_of vault asked phase)
  unfolding step_of
  step_limits begun = first_limits (static_of asked.call.request)
  step_limits (publishing s []) = refl
  step_limits (publishing s (key ∷ keys)) = publish_limits s key keys (s.count == vault.roles.count)
  step_limits (changing s) = change_limits (change_in vault.limit vault.at asked)
  step_limits (ended place changed reply) = refl

abbrev asked_by : ℕ → Call → Asked
asked_by caller call = record { caller = caller; call = call }

-- a job that is run alone begins
pub alone_begun : (call : Call) (vault : VaultValue) (job : JobValue) → job ≡ record { call = call; phase = begun; turns = 0; hit = false; ready = true } → RunsAlone vault.limit vault.at call vault job
unfolding IsAloneAt
alone_begun call vault job is = record {
  call_is = ap (λ (j : JobValue). j.call) is;
  limit_is = refl;
  phase = λ caller. subst (λ (phase : Phase). IsAloneAt vault.limit vault.at (asked_by caller call) vault phase) (sym (ap (λ (j : JobValue). j.phase) is)) refl;
  ready = ap (λ (j : JobValue). j.ready) is;
}

module _ (limit : ℕ) (at : PlacedWorld) (call : Call) (vault : VaultValue) (job : JobValue) (runs : RunsAlone limit at call vault job) where
  pub alone_past : HoldsPast job.phase vault
  alone_past = past_alone limit at (asked_by 0 call) vault job.phase (runs.phase 0)

  -- it has ended, with what is told
  pub alone_done : (place : ℕ) (changed : Bool) (reply : ReplyValue) → job.phase ≡ ended place changed reply → (caller : ℕ) → IsAnswered (answer_in limit at (asked_by caller call)) place reply changed at vault.at
  unfolding IsAloneAt
  alone_done place changed reply is caller = subst (λ (phase : Phase). IsAloneAt limit at (asked_by caller call) vault phase) is (runs.phase caller)

  abbrev step : ℕ → Call → Stepped
  step caller asked = step_of vault (asked_by caller asked) job.phase

  module _ (open_now : next_step_of job.call job.phase ≢ next.Done) where
    still_open : next_step_of call job.phase ≢ next.Done
    still_open = subst (λ (c : Call). next_step_of c job.phase ≢ next.Done) runs.call_is open_now

    module _ (job' : JobValue) (vault' : VaultValue) (stepped : (caller : ℕ) → IsStepped (step caller job.call) job job' vault') where
      was_stepped : (caller : ℕ) → IsStepped (step caller call) job job' vault'
      was_stepped caller = subst (λ (c : Call). IsStepped (step caller c) job job' vault') runs.call_is (stepped caller)

      pub alone_more : RunsAlone limit at call vault' job'
      alone_more = record {
        call_is = (was_stepped 0).call ∙ runs.call_is;
        limit_is = ap (λ (v : VaultValue). v.limit) (was_stepped 0).left ∙ step_limits vault (asked_by 0 call) job.phase ∙ runs.limit_is;
        phase = λ caller. rw ((was_stepped caller).left, (was_stepped caller).phase) (step_alone limit at (asked_by caller call) vault job.phase runs.limit_is (runs.phase caller));
        ready = (was_stepped 0).ready;
      }

      pub alone_fewer : steps_left job'.phase < steps_left job.phase
      alone_fewer = rw (was_stepped 0).phase (step_left vault (asked_by 0 call) job.phase still_open)

    module _ (vault' : VaultValue) (left : (caller : ℕ) → IsLeft (step caller job.call) vault vault') where
      left_at : IsLeft (step 0 call) vault vault' → vault'.at ≡ at
      left_at l = elim l.either [
        | inl same ↦ ap (λ (v : VaultValue). v.at) same ∙ before_end limit at (asked_by 0 call) vault job.phase still_open (runs.phase 0)
        | inr parts ↦
            ap (λ (v : VaultValue). v.at) parts.0 ∙ step_waits vault (asked_by 0 call) job.phase parts.1
            ∙ before_end limit at (asked_by 0 call) vault job.phase still_open (runs.phase 0)
      ]

      left_limit : IsLeft (step 0 call) vault vault' → vault'.limit ≡ limit
      left_limit l = elim l.either [
        | inl same ↦ ap (λ (v : VaultValue). v.limit) same ∙ runs.limit_is
        | inr parts ↦ ap (λ (v : VaultValue). v.limit) parts.0 ∙ step_limits vault (asked_by 0 call) job.phase ∙ runs.limit_is
      ]

      was_left : IsLeft (step 0 call) vault vault'
      was_left = subst (λ (c : Call). IsLeft (step 0 c) vault vault') runs.call_is (left 0)

      pub alone_left : vault'.at ≡ at
      alone_left = left_at was_left

      pub alone_limit : vault'.limit ≡ limit
      alone_limit = left_limit was_left

false_true : {A : Type 0} → false ≡ true → A
false_true e = cc e

-- no step is due only where the call has ended
pub still_going : (b : Bool) (one other : NextStep) → (IsTrue b ↔ (one ≡ next.Done)) → b ≡ false → one ≡ other → other ≢ next.Done
still_going b one other decides fails same done = false_true (sym fails ∙ decides.1 (same ∙ done))

-- what holds anyway holds where memory is refused
pub anyway : {A E : Type 0} (r : Result A E) (P : Type 0) → P → OnErr r P
anyway (Ok x) P holds = tt
anyway (Err e) P holds = holds
