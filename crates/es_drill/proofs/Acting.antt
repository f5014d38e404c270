-- What an actor's line does, as the core has it.
use Rattle.std.proofs.Common.{◌≡◌, ◌≢◌, ℕ, zero, suc, ◌+◌, ◌-◌, ◌<◌, ◌≤◌, Bool, true, false, List, [], ◌∷◌, ◌++◌, length, set, Option, Some, None, Result, Ok, Err, IfOk, refl, sym, ap, subst, subst₂, ◌∙◌, arith, append_assoc, append-nil, ne_eqb, eqb-true, length-set, get_or-set_same, get_or-set_other}
use Rattle.std.specs.Prelude.{◌==◌, if◌then◌else◌, slice_index_or}
use Rattle.std.specs.Option.{option_map}
use Rattle.std.proofs.lemmas.Bool.{eqb-false}
use Rattle.es_base.specs.declared.memory.NoMemory.{NoMemory}
use Rattle.es_request.specs.declared.call.Call.{Call}
use Rattle.es_vault.specs.Vault.{VaultValue}
use Rattle.es_job.specs.declared.note.NextStep.TheVariants as next
use Rattle.es_job.specs.Steps.{Phase, begun, Stepped, step_of, next_step_of, HoldsPast}
use Rattle.es_job.specs.Job.{JobValue}
use Rattle.es_job.specs.Core.{Task, State, starts, with_task, task_left, started_by, moved}
use Rattle.es_drill.specs.declared.ending.ScheduleFault.TheVariants as fault
use Rattle.es_drill.specs.declared.lines.Line.{Line as ReadLine}
use Rattle.es_drill.specs.declared.lines.Texts.{Texts as ReadTexts}
use Rattle.es_drill.specs.declared.lines.Line.TheVariants as line
use Rattle.es_drill.specs.declared.turning.Stop.{Stop}
use Rattle.es_drill.specs.declared.turning.Stop.TheVariants as stop
use Rattle.es_drill.specs.Lines.{Line, Texts, call_at, line_of}
use Rattle.es_drill.specs.Output.{note_line, reply_behind}
use Rattle.es_drill.specs.Drill.{Made, stays, step_made, run_made, Does, faults, makes, call_does, steps_do, line_does}
use Rattle.es_drill.specs.Keeping.{actors, IsActor, actor_in, texts_as, line_as, asked_by, IsJobOf, AreJobsOf, IsOpen, IsMadeOf, HasTurn, AllDone, Started, LineDone, HasJobs, LineTaken}
use Rattle.es_drill.proofs.Making.{own_task, held_past, task_open, step_core}

less_one : (n : ℕ) → n ≢ 0 → n ≡ suc (n - 1)
less_one zero some = absurd (some refl)
less_one (suc n) some = omega arith

pub fewer : (n t : ℕ) → n ≢ 0 → n ≤ t → n - 1 < t
fewer zero t some most = absurd (some refl)
fewer (suc n) t some most = omega (arith, most)

-- ---- a job, and its task

pub turn_some : {secret : List ℕ} {limit : ℕ} {S : State} {vault : VaultValue} {actor : ℕ} {slot other : Option JobValue} → HasTurn secret limit S vault actor slot → slot ≡ other → HasTurn secret limit S vault actor other
turn_some {secret} {limit} {S} {vault} {actor} turn is = subst (HasTurn secret limit S vault actor) is turn

module _ {secret : List ℕ} {limit : ℕ} {S : State} {vault : VaultValue} {actor : ℕ} {job : JobValue} (turn : HasTurn secret limit S vault actor (Some job)) where
  pub record Own : Type 0 where
    pub task : Task
    pub is : S.tasks actor ≡ Some task
    pub job_is : IsJobOf (Some task) (Some job)

  own_of : (o : Option Task) → S.tasks actor ≡ o → IsJobOf o (Some job) → Own
  own_of None is job_is = absurd job_is
  own_of (Some task) is job_is = record { task = task; is = is; job_is = job_is }

  pub own : Own
  own = own_of (S.tasks actor) refl turn.job_is

  pub turn_open : IsOpen job vault
  turn_open = record {
    ready = own.job_is.2;
    due = subst₂ (λ (call : Call) (phase : Phase). next_step_of call phase ≢ next.Done) (sym own.job_is.0) (sym own.job_is.1) (task_open secret limit S actor own.task turn.core own.is);
    past = subst₂ HoldsPast (sym own.job_is.1) (sym turn.vault_is) (held_past secret limit S actor own.task turn.core own.is);
  }

  module _ {left : Option JobValue} {vault' : VaultValue} {printed printed' : List ℕ}
      (made : (caller : ℕ) → IsMadeOf (step_of vault (asked_by caller job.call) job.phase) actor caller job.call left vault' printed printed') where
    abbrev stepped : Stepped
    stepped = step_of S.vault own.task.asked own.task.phase

    same : step_of vault (asked_by own.task.asked.caller job.call) job.phase ≡ stepped
    same = λ i. step_of (turn.vault_is i) (asked_by own.task.asked.caller (own.job_is.0 i)) (own.job_is.1 i)

    made_now : IsMadeOf stepped actor own.task.asked.caller own.task.asked.call left vault' printed printed'
    made_now = subst₂ (λ (s : Stepped) (call : Call). IsMadeOf s actor own.task.asked.caller call left vault' printed printed') same own.job_is.0 (made own.task.asked.caller)

    abbrev pub after : State
    after = (step_made S actor own.task).state

    pub turn_next : HasTurn secret limit after vault' actor left
    unfolding step_made
    turn_next = record {
      core = step_core secret limit S actor own.task turn.core own.is;
      vault_is = made_now.vault_is;
      job_is = subst (λ (o : Option Task). IsJobOf o left) (sym (own_task S.tasks actor (task_left own.task.asked stepped.phase))) made_now.left_is;
    }

    pub turn_more : (count n : ℕ) → count ≡ suc n → (last : Option JobValue) (vault'' : VaultValue) (printed'' : List ℕ) → AllDone (run_made n after actor (after.tasks actor)) actor last vault'' printed' printed''
        → AllDone (run_made count S actor (S.tasks actor)) actor last vault'' printed printed''
    unfolding step_made run_made
    turn_more count n is last vault'' printed'' rest =
        subst₂ (λ (m : ℕ) (o : Option Task). AllDone (run_made m S actor o) actor last vault'' printed printed'') (sym is) (sym own.is)
        (record {
          vault_is = rest.vault_is;
          printed_is = rest.printed_is ∙ ap (λ (q : List ℕ). q ++ (run_made n after actor (after.tasks actor)).printed) made_now.printed_is
              ∙ append_assoc printed (note_line actor stepped.note ++ reply_behind actor stepped.phase) (run_made n after actor (after.tasks actor)).printed;
          left_is = rest.left_is;
        })

-- ---- runs

-- no step is made
run_zero : (S : State) (actor : ℕ) (o : Option Task) → run_made 0 S actor o ≡ stays S
unfolding run_made
run_zero S actor o = refl

run_idle : (count : ℕ) (S : State) (actor : ℕ) → run_made count S actor None ≡ stays S
unfolding run_made
run_idle zero S actor = refl
run_idle (suc count) S actor = refl

module _ {secret : List ℕ} {limit : ℕ} {S : State} {vault : VaultValue} {actor : ℕ} {slot : Option JobValue} (turn : HasTurn secret limit S vault actor slot) where
  stays_done : (made : Made) → made ≡ stays S → (printed : List ℕ) → AllDone made actor slot vault printed printed
  stays_done made is printed =
      subst (λ (m : Made). AllDone m actor slot vault printed printed) (sym is) (record { vault_is = turn.vault_is; printed_is = sym (append-nil printed); left_is = turn.job_is })

  pub none_done : (count : ℕ) → count ≡ 0 → (printed : List ℕ) → AllDone (run_made count S actor (S.tasks actor)) actor slot vault printed printed
  none_done count is printed = stays_done (run_made count S actor (S.tasks actor)) (ap (λ (n : ℕ). run_made n S actor (S.tasks actor)) is ∙ run_zero S actor (S.tasks actor)) printed

-- an actor without a job has no task
no_task : (o : Option Task) → IsJobOf o None → o ≡ None
no_task None is = refl
no_task (Some task) is = absurd is

module _ {secret : List ℕ} {limit : ℕ} {S : State} {vault : VaultValue} {actor : ℕ} (turn : HasTurn secret limit S vault actor None) where
  idle : S.tasks actor ≡ None
  idle = no_task (S.tasks actor) turn.job_is

  pub idle_done : (count : ℕ) (printed : List ℕ) → AllDone (run_made count S actor (S.tasks actor)) actor None vault printed printed
  idle_done count printed =
      stays_done turn (run_made count S actor (S.tasks actor)) (ap (λ (o : Option Task). run_made count S actor o) idle ∙ run_idle count S actor) printed

  pub idle_refused : (count : ℕ) (vault' : VaultValue) (printed : List ℕ) → LineDone (steps_do count S actor (S.tasks actor)) actor vault' printed printed (Err (stop.Refused fault.IdleActor))
  idle_refused count vault' printed = subst (λ (o : Option Task). LineDone (steps_do count S actor o) actor vault' printed printed (Err (stop.Refused fault.IdleActor))) (sym idle) (refl, refl)

-- the first of so many steps, and the others
pub run_done : (count : ℕ) → count ≢ 0 → (actor : ℕ) (slot : Option JobValue) (job : JobValue) (left : Option JobValue) (vault vault' vault'' : VaultValue) (printed printed' printed'' : List ℕ) (result : Result (Option JobValue) NoMemory) → slot ≡ Some job
    → ((caller : ℕ) → IsMadeOf (step_of vault (asked_by caller job.call) job.phase) actor caller job.call left vault' printed printed')
    → IfOk result (λ last. (secret : List ℕ) (limit : ℕ) (S : State) → HasTurn secret limit S vault' actor left → AllDone (run_made (count - 1) S actor (S.tasks actor)) actor last vault'' printed' printed'')
    → IfOk result (λ last. (secret : List ℕ) (limit : ℕ) (S : State) → HasTurn secret limit S vault actor slot → AllDone (run_made count S actor (S.tasks actor)) actor last vault'' printed printed'')
run_done count some actor slot job left vault vault' vault'' printed printed' printed'' (Ok last) is made rest = λ secret limit S turn.
    let now = turn_some turn is in
    let n : count ≡ suc (count - 1) = less_one count some in
    turn_more now made count (count - 1) n last vault'' printed'' (rest secret limit (after now made) (turn_next now made))
run_done count some actor slot job left vault vault' vault'' printed printed' printed'' (Err e) is made rest = tt

-- where memory is refused nothing more is said
pub memory_done : (does : Does) (actor : ℕ) (vault : VaultValue) (printed printed' : List ℕ) → LineDone does actor vault printed printed' (Err stop.NoMemory)
memory_done (faults what) actor vault printed printed' = tt
memory_done (makes made) actor vault printed printed' = tt

pub memory_taken : (does : Does) (vault : VaultValue) (jobs : List (Option JobValue)) (printed printed' : List ℕ) → LineTaken does vault jobs printed printed' (Err stop.NoMemory)
memory_taken (faults what) vault jobs printed printed' = tt
memory_taken (makes made) vault jobs printed printed' = tt

-- an actor with a job has a task
module _ {secret : List ℕ} {limit : ℕ} {S : State} {vault : VaultValue} {actor : ℕ} {job : JobValue} (turn : HasTurn secret limit S vault actor (Some job)) where
  pub steps_done : (count : ℕ) (left : Option JobValue) (vault' : VaultValue) (printed printed' : List ℕ) → AllDone (run_made count S actor (S.tasks actor)) actor left vault' printed printed'
      → LineDone (steps_do count S actor (S.tasks actor)) actor vault' printed printed' (Ok left)
  steps_done count left vault' printed printed' = either (S.tasks actor) turn.job_is
    where
      either : (o : Option Task) → IsJobOf o (Some job) → AllDone (run_made count S actor o) actor left vault' printed printed' → LineDone (steps_do count S actor o) actor vault' printed printed' (Ok left)
      either None is done = absurd is
      either (Some task) is done = done

-- ---- a call that starts

-- an actor with a job has a task
pub busy_refused : (S : State) (number actor : ℕ) (texts : Texts) (slot : Option JobValue) (job : JobValue) → slot ≡ Some job → IsJobOf (S.tasks actor) slot → Started S actor (call_does S number actor texts (S.tasks actor)) (Err (stop.Refused fault.BusyActor))
busy_refused S number actor texts slot job is has = either (S.tasks actor) (subst (IsJobOf (S.tasks actor)) is has)
  where
    either : (o : Option Task) → IsJobOf o (Some job) → Started S actor (call_does S number actor texts o) (Err (stop.Refused fault.BusyActor))
    either None has = absurd has
    either (Some task) has = refl

-- a job of which nothing is done, of the call that is started
pub started_job : (S : State) (number actor : ℕ) (texts : Texts) (slot : Option JobValue) (call : Call) (job : JobValue) → slot ≡ None → IsJobOf (S.tasks actor) slot → call ≡ call_at number texts
    → job ≡ record { call = call; phase = begun; turns = 0; hit = false; ready = true } → Started S actor (call_does S number actor texts (S.tasks actor)) (Ok (Some job))
started_job S number actor texts slot call job empty has called is =
    let none : S.tasks actor ≡ None = no_task (S.tasks actor) (subst (IsJobOf (S.tasks actor)) empty has) in
    let task : Option Task = Some (record { asked = record { caller = actor; call = call_at number texts }; phase = begun }) in
    let now : (moved S (starts actor (call_at number texts))).tasks actor ≡ task = ap (λ (o : Option Task). (started_by S actor (call_at number texts) o).tasks actor) none ∙ own_task S.tasks actor task in
    subst (λ (o : Option Task). Started S actor (call_does S number actor texts o) (Ok (Some job))) (sym none)
    (subst (λ (o : Option Task). IsJobOf o (Some job)) (sym now) (ap (λ (j : JobValue). j.call) is ∙ called, ap (λ (j : JobValue). j.phase) is, ap (λ (j : JobValue). j.ready) is))

pub started_memory : (S : State) (actor : ℕ) (does : Does) → Started S actor does (Err stop.NoMemory)
started_memory S actor (faults what) = tt
started_memory S actor (makes made) = tt

-- what a line does on the job of its actor
module _ {secret : List ℕ} {limit : ℕ} {S : State} {vault : VaultValue} {slot : Option JobValue} (number : ℕ) (said : ReadLine) (turn : HasTurn secret limit S vault (actor_in said) slot) where
  pub turn_step : (actor : ℕ) → said ≡ line.Step actor → HasTurn secret limit S vault actor slot
  turn_step actor is = subst (λ (l : ReadLine). HasTurn secret limit S vault (actor_in l) slot) is turn

  pub turn_run : (actor : ℕ) → said ≡ line.Run actor → HasTurn secret limit S vault actor slot
  turn_run actor is = subst (λ (l : ReadLine). HasTurn secret limit S vault (actor_in l) slot) is turn

  pub turn_call : (actor : ℕ) (texts : ReadTexts) → said ≡ line.Call actor texts → HasTurn secret limit S vault actor slot
  turn_call actor texts is = subst (λ (l : ReadLine). HasTurn secret limit S vault (actor_in l) slot) is turn

  module _ (vault' : VaultValue) (printed printed' : List ℕ) (result : Result (Option JobValue) Stop) where
    abbrev DoneBy : ReadLine → Type 0
    DoneBy l = LineDone (line_does S number (Some (line_as l))) (actor_in l) vault' printed printed' result

    pub step_line : (actor : ℕ) → said ≡ line.Step actor → LineDone (steps_do 1 S actor (S.tasks actor)) actor vault' printed printed' result → DoneBy said
    unfolding line_does
    step_line actor is done = subst DoneBy (sym is) done

    pub run_line : (actor : ℕ) → said ≡ line.Run actor → LineDone (steps_do 6 S actor (S.tasks actor)) actor vault' printed printed' result → DoneBy said
    unfolding line_does
    run_line actor is done = subst DoneBy (sym is) done

  -- a call that starts leaves the vault and what was printed
  started_done : (actor : ℕ) (texts : Texts) (o : Option Task) → S.tasks actor ≡ o → (printed : List ℕ) (result : Result (Option JobValue) Stop) → Started S actor (call_does S number actor texts o) result
      → LineDone (call_does S number actor texts o) actor vault printed printed result
  started_done actor texts (Some task) is printed (Ok left) started = absurd started
  started_done actor texts (Some task) is printed (Err (stop.Refused why)) started = (started, refl)
  started_done actor texts (Some task) is printed (Err stop.NoMemory) started = tt
  started_done actor texts None is printed (Ok left) started = record {
    vault_is = turn.vault_is ∙ sym (ap (λ (o : Option Task). (started_by S actor (call_at number texts) o).vault) is);
    printed_is = sym (append-nil printed);
    left_is = started;
  }
  started_done actor texts None is printed (Err (stop.Refused why)) started = absurd started
  started_done actor texts None is printed (Err stop.NoMemory) started = tt

  pub call_line : (printed : List ℕ) (result : Result (Option JobValue) Stop) (actor : ℕ) (texts : ReadTexts) → said ≡ line.Call actor texts → Started S actor (call_does S number actor (texts_as texts) (S.tasks actor)) result
      → LineDone (line_does S number (Some (line_as said))) (actor_in said) vault printed printed result
  unfolding line_does
  call_line printed result actor texts is started =
      subst (λ (l : ReadLine). LineDone (line_does S number (Some (line_as l))) (actor_in l) vault printed printed result) (sym is)
      (started_done actor (texts_as texts) (S.tasks actor) refl printed result started)

-- ---- the other actors

-- of the other actors the tasks stay
abbrev KeepsOthers : State → ℕ → Does → Type 0
KeepsOthers S actor (faults what) = Unit {0}
KeepsOthers S actor (makes made) = (other : ℕ) → other ≢ actor → made.state.tasks other ≡ S.tasks other

other_task : (tasks : ℕ → Option Task) (actor : ℕ) (task : Option Task) (other : ℕ) → other ≢ actor → with_task tasks actor task other ≡ tasks other
other_task tasks actor task other differ = ap (λ (b : Bool). if b then task else tasks other) (ne_eqb other actor differ)

call_others : (S : State) (number actor : ℕ) (texts : Texts) (o : Option Task) → S.tasks actor ≡ o → KeepsOthers S actor (call_does S number actor texts o)
call_others S number actor texts None is = λ other differ.
    ap (λ (o : Option Task). (started_by S actor (call_at number texts) o).tasks other) is
    ∙ other_task S.tasks actor (Some (record { asked = record { caller = actor; call = call_at number texts }; phase = begun })) other differ
call_others S number actor texts (Some task) is = tt

run_others : (count : ℕ) (S : State) (actor : ℕ) (o : Option Task) (other : ℕ) → other ≢ actor → (run_made count S actor o).state.tasks other ≡ S.tasks other
unfolding run_made step_made
run_others zero S actor o other differ = refl
run_others (suc count) S actor None other differ = refl
run_others (suc count) S actor (Some task) other differ =
    run_others count (step_made S actor task).state actor ((step_made S actor task).state.tasks actor) other differ
    ∙ other_task S.tasks actor (task_left task.asked (step_of S.vault task.asked task.phase).phase) other differ

steps_others : (count : ℕ) (S : State) (actor : ℕ) (o : Option Task) → KeepsOthers S actor (steps_do count S actor o)
steps_others count S actor None = tt
steps_others count S actor (Some task) = run_others count S actor (Some task)

line_others : (S : State) (number : ℕ) (line : ReadLine) → KeepsOthers S (actor_in line) (line_does S number (Some (line_as line)))
unfolding line_does
line_others S number (line.Call actor texts) = call_others S number actor _ (S.tasks actor) refl
line_others S number (line.Step actor) = steps_others 1 S actor (S.tasks actor)
line_others S number (line.Run actor) = steps_others 6 S actor (S.tasks actor)

-- ---- the jobs of all actors

any_default : {X : Type 0} (xs : List X) (i : ℕ) (d e : X) → i < length xs → slice_index_or xs i d ≡ slice_index_or xs i e
any_default [] i d e within = absurd (omega (arith, within))
any_default (x ∷ xs) zero d e within = refl
any_default (x ∷ xs) (suc i) d e within = any_default xs i d e (omega (arith, within))

-- the number of an actor's place
place_of : (actor : ℕ) → IsActor actor → actor - 1 < actors
place_of actor is = omega (arith, is.0, is.1)

module _ {secret : List ℕ} {limit : ℕ} {S : State} {vault : VaultValue} {jobs : List (Option JobValue)} (has : HasJobs secret limit S vault jobs) (actor : ℕ) (is : IsActor actor) where
  pub turn_of : HasTurn secret limit S vault actor (slice_index_or jobs (actor - 1) None)
  turn_of = record {
    core = has.core;
    vault_is = has.vault_is;
    job_is = let same : actor - 1 + 1 ≡ actor = omega (arith, is.0) in subst (λ (n : ℕ). IsJobOf (S.tasks n) (slice_index_or jobs (actor - 1) None)) same (has.jobs_are.each (actor - 1) (place_of actor is));
  }

  -- of the job that was in its place
  pub slot_turn : (n : ℕ) → n ≡ actor → (slot other : Option JobValue) → slot ≡ slice_index_or jobs (n - 1) other → HasTurn secret limit S vault actor slot
  slot_turn n same slot other there =
      let all = has.jobs_are.all in
      let within : actor - 1 < length jobs = let place = place_of actor is in omega (arith, all, place) in
      turn_some turn_of (sym (there ∙ ap (λ (m : ℕ). slice_index_or jobs (m - 1) other) same ∙ any_default jobs (actor - 1) other None within))

  -- with what is left of the actor's
  pub jobs_with : (made : Made) (taken : Option JobValue) (left : Option JobValue) → ((other : ℕ) → other ≢ actor → made.state.tasks other ≡ S.tasks other) → IsJobOf (made.state.tasks actor) left
      → AreJobsOf made.state.tasks (set (set jobs (actor - 1) taken) (actor - 1) left)
  jobs_with made taken left others is_left = record { all = length-set _ _ _ ∙ length-set _ _ _ ∙ has.jobs_are.all; each = λ at within. either at within (at == actor - 1) refl }
    where
      before : actor - 1 < length jobs
      before = let all = has.jobs_are.all in let within = place_of actor is in omega (arith, all, within)

      own_place : (at : ℕ) → at ≡ actor - 1 → IsJobOf (made.state.tasks (at + 1)) (slice_index_or (set (set jobs (actor - 1) taken) (actor - 1) left) at None)
      own_place at same =
          let number : at + 1 ≡ actor = omega (arith, is.0, same) in
          let set_before : actor - 1 < length (set jobs (actor - 1) taken) = subst (λ (n : ℕ). actor - 1 < n) (sym (length-set jobs (actor - 1) taken)) before in
          let there : slice_index_or (set (set jobs (actor - 1) taken) (actor - 1) left) at None ≡ left =
          ap (λ (n : ℕ). slice_index_or (set (set jobs (actor - 1) taken) (actor - 1) left) n None) same ∙ get_or-set_same (set jobs (actor - 1) taken) (actor - 1) left None set_before in
          subst₂ (λ (n : ℕ) (o : Option JobValue). IsJobOf (made.state.tasks n) o) (sym number) (sym there) is_left

      other_place : (at : ℕ) → at < actors → at ≢ actor - 1 → IsJobOf (made.state.tasks (at + 1)) (slice_index_or (set (set jobs (actor - 1) taken) (actor - 1) left) at None)
      other_place at within differ =
          let there : slice_index_or (set (set jobs (actor - 1) taken) (actor - 1) left) at None ≡ slice_index_or jobs at None =
          get_or-set_other (set jobs (actor - 1) taken) (actor - 1) at left None differ ∙ get_or-set_other jobs (actor - 1) at taken None differ in
          subst₂ IsJobOf (sym (others (at + 1) (λ same. differ (omega (arith, is.0, same))))) (sym there) (has.jobs_are.each at within)

      either : (at : ℕ) → at < actors → (b : Bool) → (at == actor - 1) ≡ b → IsJobOf (made.state.tasks (at + 1)) (slice_index_or (set (set jobs (actor - 1) taken) (actor - 1) left) at None)
      either at within true same = own_place at (eqb-true at (actor - 1) same)
      either at within false differ = other_place at within (eqb-false at (actor - 1) differ)

-- what was done for the actor of the line is taken among the jobs of all
module _ {secret : List ℕ} {limit : ℕ} {S : State} {vault : VaultValue} {jobs : List (Option JobValue)} (has : HasJobs secret limit S vault jobs) (number : ℕ) (said : ReadLine) (is : IsActor (actor_in said)) where
  abbrev with_left : Option JobValue → Option JobValue → List (Option JobValue)
  with_left taken left = set (set jobs (actor_in said - 1) taken) (actor_in said - 1) left

  all_taken : (does : Does) → KeepsOthers S (actor_in said) does → (taken left : Option JobValue) (vault' : VaultValue) (printed printed' : List ℕ) → LineDone does (actor_in said) vault' printed printed' (Ok left)
      → LineTaken does vault' (with_left taken left) printed printed' (Ok tt)
  all_taken (faults what) others taken left vault' printed printed' done = absurd done
  all_taken (makes made) others taken left vault' printed printed' done =
      record { vault_is = done.vault_is; printed_is = done.printed_is; jobs_are = jobs_with has (actor_in said) is made taken left others done.left_is }

  -- the line that was read says it
  does_same : (bytes : List ℕ) → option_map line_as (Some said) ≡ line_of bytes → line_does S number (Some (line_as said)) ≡ line_does S number (line_of bytes)
  does_same bytes read = ap (line_does S number) read

  pub line_taken : (bytes : List ℕ) → option_map line_as (Some said) ≡ line_of bytes → (taken left : Option JobValue) (vault' : VaultValue) (printed printed' : List ℕ)
      → LineDone (line_does S number (Some (line_as said))) (actor_in said) vault' printed printed' (Ok left) → LineTaken (line_does S number (line_of bytes)) vault' (with_left taken left) printed printed' (Ok tt)
  line_taken bytes read taken left vault' printed printed' done =
      subst (λ (does : Does). LineTaken does vault' (with_left taken left) printed printed' (Ok tt)) (does_same bytes read)
      (all_taken (line_does S number (Some (line_as said))) (line_others S number said) taken left vault' printed printed' done)

  -- and they are the jobs behind it, whatever number its actor's place was found by
  pub line_placed : (bytes : List ℕ) → option_map line_as (Some said) ≡ line_of bytes → (n : ℕ) → n ≡ actor_in said → (taken left : Option JobValue) (vault' : VaultValue) (jobs' : List (Option JobValue)) → jobs' ≡ set (set jobs (n - 1) taken) (n - 1) left → (printed printed' : List ℕ)
      → LineDone (line_does S number (Some (line_as said))) (actor_in said) vault' printed printed' (Ok left) → LineTaken (line_does S number (line_of bytes)) vault' jobs' printed printed' (Ok tt)
  line_placed bytes read n same taken left vault' jobs' behind printed printed' done =
      subst (λ (js : List (Option JobValue)). LineTaken (line_does S number (line_of bytes)) vault' js printed printed' (Ok tt)) (sym (behind ∙ ap (λ (m : ℕ). set (set jobs (m - 1) taken) (m - 1) left) same))
      (line_taken bytes read taken left vault' printed printed' done)

  refused_taken : (does : Does) (why : Stop) (vault' : VaultValue) (jobs' : List (Option JobValue)) (printed printed' : List ℕ) → LineDone does (actor_in said) vault' printed printed' (Err why) → LineTaken does vault' jobs' printed printed' (Err why)
  refused_taken (faults what) (stop.Refused why) vault' jobs' printed printed' done = done
  refused_taken (faults what) stop.NoMemory vault' jobs' printed printed' done = tt
  refused_taken (makes made) (stop.Refused why) vault' jobs' printed printed' done = absurd done
  refused_taken (makes made) stop.NoMemory vault' jobs' printed printed' done = tt

  pub line_stopped : (bytes : List ℕ) → option_map line_as (Some said) ≡ line_of bytes → (why : Stop) (vault' : VaultValue) (jobs' : List (Option JobValue)) (printed printed' : List ℕ)
      → LineDone (line_does S number (Some (line_as said))) (actor_in said) vault' printed printed' (Err why) → LineTaken (line_does S number (line_of bytes)) vault' jobs' printed printed' (Err why)
  line_stopped bytes read why vault' jobs' printed printed' done =
      subst (λ (does : Does). LineTaken does vault' jobs' printed printed' (Err why)) (does_same bytes read)
      (refused_taken (line_does S number (Some (line_as said))) why vault' jobs' printed printed' done)

-- a line that says nothing is refused
pub bad_taken : (S : State) (number : ℕ) (bytes : List ℕ) → option_map line_as None ≡ line_of bytes → (vault : VaultValue) (jobs : List (Option JobValue)) (printed : List ℕ)
    → LineTaken (line_does S number (line_of bytes)) vault jobs printed printed (Err (stop.Refused fault.BadLine))
unfolding line_does
bad_taken S number bytes read vault jobs printed = subst (λ (o : Option Line). LineTaken (line_does S number o) vault jobs printed printed (Err (stop.Refused fault.BadLine))) read (refl, refl)
