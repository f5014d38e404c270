-- What a drill keeps while it runs: a job in the place of each actor's task, the bytes that wait, and what was printed.
use Rattle.std.specs.Prelude.{◌≡◌, ◌≢◌, ◌<◌, ◌≤◌, ⊤, ℕ, ◌+◌, true, List, [], ◌∷◌, ◌++◌, length, codes, slice_index_or, Option, Some, None, Result, Ok, Err}
use Rattle.es_edge.specs.Moves.{Input, Output, Gives, Takes, HasEnded}
use Rattle.es_edge.specs.Causes.{Rose}
use Rattle.es_edge.specs.Sends.{Sends}
use Rattle.es_edge.specs.declared.sending.Sent.TheVariants as sent
use Rattle.es_wire.specs.declared.request.Once.{Once}
use Rattle.es_wire.specs.declared.request.Once.TheVariants as once
use Rattle.es_request.specs.declared.call.Call.{Call}
use Rattle.es_vault.specs.Answer.{Asked}
use Rattle.es_vault.specs.Vault.{VaultValue}
use Rattle.es_job.specs.declared.note.Note.{Note}
use Rattle.es_job.specs.declared.note.NextStep.TheVariants as next
use Rattle.es_job.specs.Steps.{Stepped, next_step_of, HoldsPast}
use Rattle.es_job.specs.Job.{JobValue}
use Rattle.es_job.specs.Core.{Task, State, task_left, IsCore}
use Rattle.es_drill.specs.declared.ending.Drilled.TheVariants as end
use Rattle.es_drill.specs.declared.lines.Authorization.{Authorization}
use Rattle.es_drill.specs.declared.lines.Authorization.TheVariants as authorization
use Rattle.es_drill.specs.declared.lines.Texts.{Texts}
use Rattle.es_drill.specs.declared.lines.Line.{Line}
use Rattle.es_drill.specs.declared.lines.Line.TheVariants as line
use Rattle.es_drill.specs.declared.reading.Found.{Found}
use Rattle.es_drill.specs.declared.reading.Found.TheVariants as found
use Rattle.es_drill.specs.declared.reading.After.{After}
use Rattle.es_drill.specs.declared.reading.After.TheVariants as after
use Rattle.es_drill.specs.declared.turning.Stop.{Stop}
use Rattle.es_drill.specs.declared.turning.Stop.TheVariants as stop
use Rattle.es_drill.specs.declared.taking.Next.{Next}
use Rattle.es_drill.specs.declared.taking.Next.TheVariants as go
use Rattle.es_drill.specs.Lines as lines
use Rattle.es_drill.specs.Lines.{line_limit}
use Rattle.es_drill.specs.Output.{note_line, reply_behind, fault_line}
use Rattle.es_drill.specs.Drill.{Made, Does, faults, makes, drilled}
use Rattle.es_drill.specs.Drilled.{fed, is_line, IsCut, HasDrilled}

-- ---- lines, as contracts see them

abbrev pub authorization_as : Authorization → Once
authorization_as authorization.Nobody = once.Absent
authorization_as (authorization.Bearer text) = once.One (codes "Bearer " ++ text.now)
authorization_as (authorization.ApiKey text) = once.One (codes "ApiKey " ++ text.now)

abbrev pub texts_as : Texts → lines.Texts
texts_as t = record { method = t.method.now; target = t.target.now; authorization = authorization_as t.authorization; body = t.body.now }

abbrev pub line_as : Line → lines.Line
line_as (line.Call actor texts) = lines.calls actor (texts_as texts)
line_as (line.Step actor) = lines.steps actor
line_as (line.Run actor) = lines.runs actor

-- whose line it is
abbrev pub actor_in : Line → ℕ
actor_in (line.Call actor texts) = actor
actor_in (line.Step actor) = actor
actor_in (line.Run actor) = actor

-- ---- jobs

-- as many actors there are
abbrev pub actors : ℕ
actors = 26

-- they have the numbers from 1 on
abbrev pub IsActor : ℕ → Type 0
IsActor actor = (1 ≤ actor) × (actor ≤ actors)

-- a job in the place of a task: both are there, with the same call at the same place in its steps, and no local work is due; or neither is
abbrev pub IsJobOf : Option Task → Option JobValue → Type 0
IsJobOf None None = ⊤
IsJobOf None (Some job) = ⊥
IsJobOf (Some task) None = ⊥
IsJobOf (Some task) (Some job) = (job.call ≡ task.asked.call) × (job.phase ≡ task.phase) × (job.ready ≡ true)

-- the jobs are those of the tasks
pub record AreJobsOf (tasks : ℕ → Option Task) (jobs : List (Option JobValue)) : Type 0 where
  pub all : length jobs ≡ actors
  pub each : (at : ℕ) → at < actors → IsJobOf (tasks (at + 1)) (slice_index_or jobs at None)

-- a job whose next step can be made: it has one, and what it holds is past in the vault
pub record IsOpen (job : JobValue) (vault : VaultValue) : Type 0 where
  pub ready : job.ready ≡ true
  pub due : next_step_of job.call job.phase ≢ next.Done
  pub past : HoldsPast job.phase vault

-- a step was made and noted, and the local work behind it done
pub record IsStepMade (stepped : Stepped) (n : Note) (old new : JobValue) (vault : VaultValue) : Type 0 where
  pub noted : n ≡ stepped.note
  pub left : vault ≡ stepped.vault
  pub call : new.call ≡ old.call
  pub phase : new.phase ≡ stepped.phase
  pub ready : new.ready ≡ true

abbrev pub asked_by : ℕ → Call → Asked
asked_by caller call = record { caller = caller; call = call }

-- what a step made: the vault, the line of its note with the reply behind it, and the job that is left, if it hasn't ended
pub record IsMadeOf (stepped : Stepped) (actor caller : ℕ) (call : Call) (left : Option JobValue) (vault : VaultValue) (printed printed' : List ℕ) : Type 0 where
  pub vault_is : vault ≡ stepped.vault
  pub printed_is : printed' ≡ printed ++ (note_line actor stepped.note ++ reply_behind actor stepped.phase)
  pub left_is : IsJobOf (task_left (asked_by caller call) stepped.phase) left

-- a state with this vault, in which the actor's task has this job
pub record HasTurn (secret : List ℕ) (limit : ℕ) (S : State) (vault : VaultValue) (actor : ℕ) (slot : Option JobValue) : Type 0 where
  pub core : IsCore secret limit S
  pub vault_is : vault ≡ S.vault
  pub job_is : IsJobOf (S.tasks actor) slot

-- all of it was made
pub record AllDone (made : Made) (actor : ℕ) (left : Option JobValue) (vault : VaultValue) (printed printed' : List ℕ) : Type 0 where
  pub vault_is : vault ≡ made.state.vault
  pub printed_is : printed' ≡ printed ++ made.printed
  pub left_is : IsJobOf (made.state.tasks actor) left

-- a job of a call was started, or the line is refused, or memory
abbrev pub Started : State → ℕ → Does → Result (Option JobValue) Stop → Type 0
Started S actor (faults what) (Ok left) = ⊥
Started S actor (faults what) (Err (stop.Refused why)) = why ≡ what
Started S actor (faults what) (Err stop.NoMemory) = ⊤
Started S actor (makes made) (Ok left) = IsJobOf (made.state.tasks actor) left
Started S actor (makes made) (Err (stop.Refused why)) = ⊥
Started S actor (makes made) (Err stop.NoMemory) = ⊤

-- the line did what it does on the job of its actor: it is refused, or all is made, or memory was refused
abbrev pub LineDone : Does → ℕ → VaultValue → List ℕ → List ℕ → Result (Option JobValue) Stop → Type 0
LineDone (faults what) actor vault printed printed' (Ok left) = ⊥
LineDone (faults what) actor vault printed printed' (Err (stop.Refused why)) = (why ≡ what) × (printed' ≡ printed)
LineDone (faults what) actor vault printed printed' (Err stop.NoMemory) = ⊤
LineDone (makes made) actor vault printed printed' (Ok left) = AllDone made actor left vault printed printed'
LineDone (makes made) actor vault printed printed' (Err (stop.Refused why)) = ⊥
LineDone (makes made) actor vault printed printed' (Err stop.NoMemory) = ⊤

-- a state with this vault, whose tasks have these jobs
pub record HasJobs (secret : List ℕ) (limit : ℕ) (S : State) (vault : VaultValue) (jobs : List (Option JobValue)) : Type 0 where
  pub core : IsCore secret limit S
  pub vault_is : vault ≡ S.vault
  pub jobs_are : AreJobsOf S.tasks jobs

-- all of it was made, and the jobs are those of the tasks
pub record AllTaken (made : Made) (vault : VaultValue) (jobs : List (Option JobValue)) (printed printed' : List ℕ) : Type 0 where
  pub vault_is : vault ≡ made.state.vault
  pub printed_is : printed' ≡ printed ++ made.printed
  pub jobs_are : AreJobsOf made.state.tasks jobs

-- the line was taken: it did what it does
abbrev pub LineTaken : Does → VaultValue → List (Option JobValue) → List ℕ → List ℕ → Result (Unit {0}) Stop → Type 0
LineTaken (faults what) vault jobs printed printed' (Ok done) = ⊥
LineTaken (faults what) vault jobs printed printed' (Err (stop.Refused why)) = (why ≡ what) × (printed' ≡ printed)
LineTaken (faults what) vault jobs printed printed' (Err stop.NoMemory) = ⊤
LineTaken (makes made) vault jobs printed printed' (Ok done) = AllTaken made vault jobs printed printed'
LineTaken (makes made) vault jobs printed printed' (Err (stop.Refused why)) = ⊥
LineTaken (makes made) vault jobs printed printed' (Err stop.NoMemory) = ⊤

-- ---- reading

-- the source gave the bytes by which what waits grew
pub record Grows (before now : List ℕ) (old new : Input) : Type 0 where
  pub read : List ℕ
  pub given : Gives old new read
  pub now_is : now ≡ before ++ read

-- why reading stopped: a line stands with its line feed; the rest is a line, since it is too long or the source ended; or there is none
abbrev pub FoundIn : List ℕ → Input → Input → Found → Type 0
FoundIn now old new (found.Line end) = (line : List ℕ) × (more : List ℕ) × (now ≡ fed line ++ more) × (is_line line ≡ true) × (length line ≡ end) × (new.faults ≡ old.faults)
FoundIn now old new found.Long = (is_line now ≡ true) × (line_limit < length now) × (new.faults ≡ old.faults)
FoundIn now old new found.Last = (is_line now ≡ true) × (now ≢ []) × HasEnded old new × (new.faults ≡ old.faults)
FoundIn now old new found.Ended = (now ≡ []) × HasEnded old new × (new.faults ≡ old.faults)
FoundIn now old new found.ReadFault = (is_line now ≡ true) × (length now ≤ line_limit) × Rose old.faults new.faults
FoundIn now old new found.NoMemory = new.faults ≡ old.faults

-- what is left where the source ended
abbrev pub at_end : List ℕ → Found
at_end [] = found.Ended
at_end (b ∷ bytes) = found.Last

-- what looking for a line did; where memory is refused the bytes that were read last are lost
abbrev pub Finds : List ℕ → List ℕ → Input → Input → Found → Type 0
Finds before now old new found.NoMemory = ((read : List ℕ) × Gives old new read) × FoundIn now old new found.NoMemory
Finds before now old new result = Grows before now old new × FoundIn now old new result

-- what comes behind the last line that may be taken: a byte, the end of the source, or its fault
abbrev pub AfterAll : List ℕ → Input → Input → After → Type 0
AfterAll pending old new after.Byte = (read : List ℕ) × Gives old new read × (pending ++ read ≢ []) × (new.faults ≡ old.faults)
AfterAll pending old new after.End = (pending ≡ []) × Gives old new [] × HasEnded old new × (new.faults ≡ old.faults)
AfterAll pending old new after.ReadFault = (pending ≡ []) × Gives old new [] × Rose old.faults new.faults

-- ---- the loop

-- what a line prints
abbrev pub printed_by : ℕ → Does → List ℕ
printed_by number (faults what) = fault_line number what
printed_by number (makes made) = made.printed

-- the line of this number was taken, and what it prints was written; or the drill ends at it
abbrev pub TakenBy : ℕ → Does → VaultValue → List (Option JobValue) → Output → Output → Next → Type 0
TakenBy number does vault jobs old new go.On =
    (made : Made) × (does ≡ makes made) × (vault ≡ made.state.vault) × AreJobsOf made.state.tasks jobs × Takes old new made.printed × (new.faults ≡ old.faults)
TakenBy number does vault jobs old new (go.Ends (end.BadSchedule at what)) = (at ≡ number) × (does ≡ faults what) × Takes old new (fault_line number what) × (new.faults ≡ old.faults)
TakenBy number does vault jobs old new (go.Ends end.WriteFault) = Sends old new (printed_by number does) sent.WriteFault
TakenBy number does vault jobs old new (go.Ends end.NoMemory) = new ≡ old
TakenBy number does vault jobs old new (go.Ends end.Done) = ⊥
TakenBy number does vault jobs old new (go.Ends end.ReadFault) = ⊥
TakenBy number does vault jobs old new (go.Ends end.Spent) = ⊥

-- the drill ends behind the last line
abbrev pub behind_last : Next → Next
behind_last go.On = go.Ends end.Done
behind_last (go.Ends ended) = go.Ends ended

-- the lines so far, none of which was refused: what was read and written, and where the jobs and the vault are
pub record Goes
    (count : ℕ) (secret : List ℕ) (limit capacity : ℕ) (vault : VaultValue) (jobs : List (Option JobValue)) (pending : List ℕ)
    (old new : Input) (out out_new : Output) : Type 0 where
  pub read : List ℕ
  pub lines : List (List ℕ)
  pub taken : length lines ≡ count
  pub fine : (drilled secret limit capacity lines).fault ≡ None
  pub has : HasJobs secret limit (drilled secret limit capacity lines).state vault jobs
  pub gave : Gives old new read
  pub cut : IsCut read lines pending
  pub took : Takes out out_new (drilled secret limit capacity lines).printed
  pub calm : (new.faults ≡ old.faults) × (out_new.faults ≡ out.faults)
  pub source_is_open : new.is_open ≡ true
  pub sink_is_open : out_new.is_open ≡ true

-- a line more was taken, or the drill ended
abbrev pub GoesOn : ℕ → List ℕ → ℕ → ℕ → VaultValue → List (Option JobValue) → List ℕ → Input → Input → Output → Output → Next → Type 0
GoesOn count secret limit capacity vault jobs pending old new out out_new go.On = Goes (count + 1) secret limit capacity vault jobs pending old new out out_new
GoesOn count secret limit capacity vault jobs pending old new out out_new (go.Ends ended) = HasDrilled secret limit capacity old new out out_new ended
