-- A job as contracts see it.
use Rattle.std.specs.Prelude.{◌≡◌, ⊤, ℕ, ◌+◌, ◌≤◌, ◌||◌, length, Bool, true, false, IsTrue, is_some, List, All, Option, Some, None}
use Rattle.es_response.specs.Reply.{ReplyValue}
use Rattle.es_reply.specs.Bodies.{not_built_reply, unauthorized}
use Rattle.es_decide.specs.declared.kinds.Halves.{Halves}
use Rattle.es_records.specs.Records.{who}
use Rattle.es_records.specs.Halves.{halves_in, IsOf}
use Rattle.es_request.specs.declared.call.Call.{Call}
use Rattle.es_vault.specs.declared.look.Snapshot.{Snapshot}
use Rattle.es_vault.specs.Answer.{IsMade}
use Rattle.es_vault.specs.Names.{keys_for, key_list}
use Rattle.es_vault.specs.Vault.{IsRight}
use Rattle.es_job.specs.declared.work.Work.{Work}
use Rattle.es_job.specs.declared.work.Work.TheVariants as work
use Rattle.es_job.specs.Answer.{static_of, not_reached, is_due, reply_or}
use Rattle.es_job.specs.Due.{due_pairs, due_keys, first_of}
use Rattle.es_job.specs.declared.note.Note.{Note}
use Rattle.es_job.specs.declared.stepping.Step.{Step}
use Rattle.es_vault.specs.Vault.{VaultValue}
use Rattle.es_job.specs.Steps.{Phase, begun, publishing, changing, ended, next_with, Stepped, is_hit, ready_after}

-- a call, where it is, how many steps were made, whether a look hit, and whether the next step can be made, since no local work is due
pub record JobValue : Type 0 where
  pub call : Call
  pub phase : Phase
  pub turns : ℕ
  pub hit : Bool
  pub ready : Bool

-- the reply to a caller that isn't known, at a place
abbrev pub unknown_at : ℕ → Call → ReplyValue
unknown_at place call = reply_or (not_reached place call.seen) unauthorized

-- the reply that was made, or the one that the request has
abbrev pub reply_of : Call → Option ReplyValue → ReplyValue
reply_of call None = reply_or (static_of call.request) not_built_reply
reply_of call (Some reply) = reply

-- Where the work is, as the steps have it: local work moves nothing.
abbrev pub phase_as : Call → Work → Phase
phase_as call work.Begun = begun
phase_as call (work.Missed s keys) = publishing s (key_list keys)
phase_as call (work.Looked s halves due) = next_with s (due_keys due) call
phase_as call (work.Changing s halves) = changing s
phase_as call (work.Unknown place) = ended place false (unknown_at place call)
phase_as call (work.Ended place changed reply) = ended place changed (reply_of call reply)

-- whether no local work is due
abbrev pub is_ready : Work → Bool
is_ready work.Begun = true
is_ready (work.Missed s keys) = false
is_ready (work.Looked s halves due) = is_some (first_of (due_pairs due))
is_ready (work.Changing s halves) = true
is_ready (work.Unknown place) = false
is_ready (work.Ended place changed reply) = true

-- so many steps were made
abbrev pub HasTurns : Work → ℕ → Type 0
HasTurns work.Begun turns = turns ≡ 0
HasTurns (work.Missed s keys) turns = turns ≡ 1
HasTurns (work.Looked s halves due) turns = turns + length (due_pairs due) ≤ 4
HasTurns (work.Changing s halves) turns = turns ≤ 4
HasTurns (work.Unknown place) turns = turns ≡ 1
HasTurns (work.Ended place changed reply) turns = turns ≤ 5

-- what a look found of a call that isn't refused by its own text: who asks
pub record IsLooked (call : Call) (s : Snapshot) : Type 0 where
  pub own : static_of call.request ≡ None
  pub known : who s.records call.credentials call.run_as call.moment ≡ Some s.subject
  pub is_of : IsOf s.records s.subject.caller

-- the halves are those of the records that the look found
pub record HasHalves (call : Call) (s : Snapshot) (halves : Halves) : Type 0 where
  pub looked : IsLooked call s
  pub halves_are : halves ≡ halves_in s.records s.subject

-- the reply that was made, or the request has one
abbrev pub HasReply : Call → Option ReplyValue → Type 0
HasReply call None = IsTrue (is_some (static_of call.request))
HasReply call (Some reply) = ⊤

-- what work holds is what its look found, and what it has made of that
abbrev pub IsGood : Call → Work → Type 0
IsGood call work.Begun = ⊤
IsGood call (work.Missed s keys) = IsLooked call s × (keys ≡ keys_for s.subject)
IsGood call (work.Looked s halves due) = HasHalves call s halves × All (IsRight s.records) (due_pairs due)
IsGood call (work.Changing s halves) = HasHalves call s halves × (is_due s.records s.place call ≡ true)
IsGood call (work.Unknown place) = ⊤
IsGood call (work.Ended place changed reply) = HasReply call reply

abbrev pub job_of : Call → Work → ℕ → Bool → JobValue
job_of call w turns hit = record { call = call; phase = phase_as call w; turns = turns; hit = hit; ready = is_ready w }

-- a job's call is as it was made, and its work is good
pub record IsSound (call : Call) (w : Work) (turns : ℕ) : Type 0 where
  pub made : IsMade call
  pub good : IsGood call w
  pub few : HasTurns w turns

-- what a step makes of a job: where it is then, and its note
pub record HasStepped (stepped : Stepped) (n : Note) (old new : JobValue) (vault : VaultValue) : Type 0 where
  pub noted : n ≡ stepped.note
  pub left : vault ≡ stepped.vault
  pub call : new.call ≡ old.call
  pub phase : new.phase ≡ stepped.phase
  pub turns : new.turns ≡ old.turns + 1
  pub hit : new.hit ≡ (old.hit || is_hit n)
  pub ready : new.ready ≡ ready_after n new.phase

-- what a step made is the work that comes next
pub record IsStep (call : Call) (stepped : Stepped) (step : Step) (turns : ℕ) (vault : VaultValue) : Type 0 where
  pub noted : step.note ≡ stepped.note
  pub left : vault ≡ stepped.vault
  pub phase : phase_as call step.work ≡ stepped.phase
  pub ready : is_ready step.work ≡ ready_after step.note stepped.phase
  pub good : IsGood call step.work
  pub few : HasTurns step.work (turns + 1)

-- what local work leaves: the same place in the steps, with the next one ready
pub record IsWorked (call : Call) (old new : Work) (turns : ℕ) : Type 0 where
  pub phase : phase_as call new ≡ phase_as call old
  pub ready : is_ready new ≡ true
  pub good : IsGood call new
  pub few : HasTurns new turns

-- the local work that was due was done, or none was
abbrev pub WorkDone : Call → Work → Option Work → ℕ → Type 0
WorkDone call old None turns = is_ready old ≡ true
WorkDone call old (Some new) turns = IsWorked call old new turns
