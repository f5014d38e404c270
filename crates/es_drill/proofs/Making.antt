-- What lines make of a state is made by moves of the core.
use Rattle.std.proofs.Common.{◌≡◌, ◌≢◌, ℕ, zero, suc, ◌+◌, ◌<◌, ◌≤◌, Bool, true, false, List, [], ◌∷◌, ◌++◌, length, length-append, Option, Some, None, refl, sym, ap, subst, ◌∙◌, arith, Result, Ok, Err, eq-eqb}
use Rattle.std.specs.Prelude.{IfSome, if◌then◌else◌}
use Rattle.es_response.specs.Reply.{ReplyValue}
use Rattle.es_wire.specs.declared.request.RawRequest.{RawRequest}
use Rattle.es_request.specs.Requests.{draws, IsTimely}
use Rattle.es_request.proofs.Timely.{request_timely}
use Rattle.es_route.specs.Reading.{Asked as RouteAsked, asked_of, with_body, read_request, call_of}
use Rattle.es_vault.specs.World.{World, Entry, opening_world, opening_entry}
use Rattle.es_vault.specs.Answer.{Asked, IsMade, is_drawn}
use Rattle.es_job.specs.declared.note.NextStep.TheVariants as next
use Rattle.es_job.specs.Answer.{static_of}
use Rattle.es_job.specs.Steps.{Phase, begun, publishing, changing, ended, step_of, steps_left, most_steps, first_kind, next_step_of, HoldsPast}
use Rattle.es_job.specs.Core.{Task, Answered, State, starts, steps, with_task, task_left, stepped_by, Holds, IsHeld, IsCore}
use Rattle.es_job.proofs.Past.{holds_past}
use Rattle.es_job.proofs.Moving.{moved_keeps, opened_core}
use Rattle.es_job.proofs.Fewer.{few_halves, step_left}
use Rattle.es_drill.specs.declared.ending.ScheduleFault.{ScheduleFault}
use Rattle.es_drill.specs.Lines as lines
use Rattle.es_drill.specs.Lines.{Line, Texts, raw_of, drawn_if, moment_of, call_at, line_of}
use Rattle.es_drill.specs.Drill.{step_made, run_made, Does, faults, makes, call_does, steps_do, line_does, Drill, drill_with, drill_line, drill_lines, opened_state, drilled}
use Rattle.es_drill.specs.Drilled.{most_lines}
use Rattle.es_drill.specs.Laws.{DrillsLegally, RunsToTheEnd}

-- ---- the call of a line is as calls are made

body_timely : (r : Result RouteAsked ReplyValue) (body : List ℕ) → IsTimely (with_body r body)
body_timely (Ok asked) body = request_timely asked.kind asked.pieces body
body_timely (Err reply) body = tt

read_timely : (raw : RawRequest) → IsTimely (read_request raw)
unfolding read_request
read_timely raw = body_timely (asked_of raw) raw.body

drawn_is : (b : Bool) → is_drawn (drawn_if b) ≡ b
drawn_is true = refl
drawn_is false = refl

pub made_at : (number : ℕ) (texts : Texts) → number ≤ most_lines → IsMade (call_at number texts)
unfolding call_of
made_at number texts few = record { moment = omega (arith, few); timely = read_timely (raw_of texts); drawn = drawn_is (draws (read_request (raw_of texts))) }

-- ---- tasks

-- an actor's own task
pub own_task : (tasks : ℕ → Option Task) (actor : ℕ) (task : Option Task) → with_task tasks actor task actor ≡ task
own_task tasks actor task = ap (λ (b : Bool). if b then task else tasks actor) (eq-eqb actor actor refl)

module _ (secret : List ℕ) (limit : ℕ) (S : State) (actor : ℕ) (task : Task) (core : IsCore secret limit S) (is : S.tasks actor ≡ Some task) where
  held : IsHeld (opening_world secret) S.journal S.answered actor task
  held = subst (λ (o : Option Task). IfSome o (IsHeld (opening_world secret) S.journal S.answered actor)) is (core.held actor)

  -- what a task holds is past
  pub held_past : HoldsPast task.phase S.vault
  held_past = holds_past secret limit S actor task core is

  -- a step keeps what always holds
  pub step_core : IsCore secret limit (step_made S actor task).state
  unfolding step_made
  step_core = subst (λ (o : Option Task). IsCore secret limit (stepped_by S actor o)) is (moved_keeps secret limit S (steps actor) core tt)

first_open : (o : Option ReplyValue) → first_kind o ≢ next.Done
first_open None is = cc is
first_open (Some reply) is = cc is

-- a task has a next step
held_open : (w : World) (J : List Entry) (answered : List Answered) (asked : Asked) (phase : Phase) → Holds w J answered asked phase → next_step_of asked.call phase ≢ next.Done
held_open w J answered asked begun holds = first_open (static_of asked.call.request)
held_open w J answered asked (publishing s keys) holds = λ is. cc is
held_open w J answered asked (changing s) holds = λ is. cc is
held_open w J answered asked (ended place changed reply) holds = absurd holds

pub task_open : (secret : List ℕ) (limit : ℕ) (S : State) (actor : ℕ) (task : Task) → IsCore secret limit S → S.tasks actor ≡ Some task → next_step_of task.asked.call task.phase ≢ next.Done
task_open secret limit S actor task core is = held_open (opening_world secret) S.journal S.answered task.asked task.phase (held secret limit S actor task core is).phase

-- ---- runs

pub run_core : (secret : List ℕ) (limit count : ℕ) (S : State) (actor : ℕ) (o : Option Task) → IsCore secret limit S → S.tasks actor ≡ o → IsCore secret limit (run_made count S actor o).state
unfolding run_made
run_core secret limit zero S actor o core is = core
run_core secret limit (suc count) S actor None core is = core
run_core secret limit (suc count) S actor (Some task) core is =
    run_core secret limit count (step_made S actor task).state actor ((step_made S actor task).state.tasks actor) (step_core secret limit S actor task core is) refl

-- no call has more steps: the halves that are left are no more than a subject has
few_steps : (w : World) (J : List Entry) (answered : List Answered) (asked : Asked) (phase : Phase) → Holds w J answered asked phase → steps_left phase ≤ most_steps
unfolding steps_left
few_steps w J answered asked begun holds = omega arith
few_steps w J answered asked (publishing s keys) holds =
    let all = ap length holds.1.all in
    let both = length-append holds.1.done keys in
    let few = few_halves s.subject in
    omega (arith, all, both, few)
few_steps w J answered asked (changing s) holds = omega arith
few_steps w J answered asked (ended place changed reply) holds = omega arith

-- how many steps are left of a task, if there is one
abbrev left_in : Option Task → ℕ
left_in None = 0
left_in (Some task) = steps_left task.phase

left_steps : (asked : Asked) (phase : Phase) → left_in (task_left asked phase) ≡ steps_left phase
unfolding steps_left
left_steps asked begun = refl
left_steps asked (publishing s keys) = refl
left_steps asked (changing s) = refl
left_steps asked (ended place changed reply) = refl

module _ (secret : List ℕ) (limit : ℕ) (S : State) (actor : ℕ) (task : Task) (core : IsCore secret limit S) (is : S.tasks actor ≡ Some task) where
  step_fewer : steps_left (step_of S.vault task.asked task.phase).phase < steps_left task.phase
  step_fewer = step_left S.vault task.asked task.phase (task_open secret limit S actor task core is)

  made_fewer : left_in ((step_made S actor task).state.tasks actor) < steps_left task.phase
  unfolding step_made
  made_fewer =
      let own = ap left_in (own_task S.tasks actor (task_left task.asked (step_of S.vault task.asked task.phase).phase)) ∙ left_steps task.asked (step_of S.vault task.asked task.phase).phase in
      let fewer = step_fewer in
      omega (arith, own, fewer)

-- as many steps as are left end a task
run_left : (secret : List ℕ) (limit count : ℕ) (S : State) (actor : ℕ) (o : Option Task) → IsCore secret limit S → S.tasks actor ≡ o → left_in o ≤ count → (run_made count S actor o).state.tasks actor ≡ None
unfolding run_made
run_left secret limit zero S actor None core is few = is
run_left secret limit zero S actor (Some task) core is few = let fewer = step_fewer secret limit S actor task core is in absurd (omega (arith, fewer, few))
run_left secret limit (suc count) S actor None core is few = is
run_left secret limit (suc count) S actor (Some task) core is few =
    let fewer = made_fewer secret limit S actor task core is in
    run_left secret limit count (step_made S actor task).state actor ((step_made S actor task).state.tasks actor) (step_core secret limit S actor task core is) refl (omega (arith, fewer, few))

-- a call that runs ends
pub runs_to_the_end : RunsToTheEnd
runs_to_the_end secret limit S actor task core is =
    run_left secret limit most_steps S actor (Some task) core is
    (few_steps (opening_world secret) S.journal S.answered task.asked task.phase (held secret limit S actor task core is).phase)

-- ---- lines

-- what always holds, of the state that is made
abbrev pub KeepsCore : List ℕ → ℕ → Does → Type 0
KeepsCore secret limit (faults what) = Unit {0}
KeepsCore secret limit (makes made) = IsCore secret limit made.state

module _ (secret : List ℕ) (limit : ℕ) (S : State) (core : IsCore secret limit S) (number : ℕ) (few : number ≤ most_lines) where
  call_core : (actor : ℕ) (texts : Texts) (o : Option Task) → S.tasks actor ≡ o → KeepsCore secret limit (call_does S number actor texts o)
  call_core actor texts None is = moved_keeps secret limit S (starts actor (call_at number texts)) core (made_at number texts few)
  call_core actor texts (Some task) is = tt

  steps_core : (count actor : ℕ) (o : Option Task) → S.tasks actor ≡ o → KeepsCore secret limit (steps_do count S actor o)
  steps_core count actor None is = tt
  steps_core count actor (Some task) is = run_core secret limit count S actor (Some task) core is

  pub line_core : (line : Option Line) → KeepsCore secret limit (line_does S number line)
  unfolding line_does
  line_core None = tt
  line_core (Some (lines.calls actor texts)) = call_core actor texts (S.tasks actor) refl
  line_core (Some (lines.steps actor)) = steps_core 1 actor (S.tasks actor) refl
  line_core (Some (lines.runs actor)) = steps_core most_steps actor (S.tasks actor) refl

  pub with_core : (d : Drill) (does : Does) → d.state ≡ S → KeepsCore secret limit does → IsCore secret limit (drill_with d number does).state
  with_core d (faults what) is keeps = subst (IsCore secret limit) (sym is) core
  with_core d (makes made) is keeps = keeps

-- what the lines leave holds
lines_core : (secret : List ℕ) (limit : ℕ) (all : List (List ℕ)) (d : Drill) (number : ℕ) → number + length all ≤ most_lines + 1 → IsCore secret limit d.state → IsCore secret limit (drill_lines d number all).state
unfolding drill_lines
lines_core secret limit [] d number few core = core
lines_core secret limit (line ∷ others) d number few core = lines_core secret limit others (drill_line d number d.fault line) (number + 1) (omega (arith, few)) (one d.fault)
  where
    one : (fault : Option (ℕ × ScheduleFault)) → IsCore secret limit (drill_line d number fault line).state
    one None = with_core secret limit d.state core number (omega (arith, few)) d (line_does d.state number (line_of line)) refl (line_core secret limit d.state core number (omega (arith, few)) (line_of line))
    one (Some what) = core

pub begun_core : (secret : List ℕ) (limit capacity : ℕ) → 1 ≤ limit → limit ≤ 200000 → IsCore secret limit (opened_state secret limit capacity)
begun_core secret limit capacity some most = opened_core secret limit capacity (opening_entry ∷ []) (record { entries = []; opens = refl; fit = tt }) some most (omega arith)

pub drills_legally : DrillsLegally
drills_legally secret limit capacity all few some most =
    lines_core secret limit all (record { state = opened_state secret limit capacity; printed = []; fault = None }) 1 (omega (arith, few)) (begun_core secret limit capacity some most)

-- ---- a line behind lines

lines_more : (all : List (List ℕ)) (line : List ℕ) (d : Drill) (number : ℕ)
    → drill_lines d number (all ++ line ∷ []) ≡ drill_line (drill_lines d number all) (number + length all) (drill_lines d number all).fault line
unfolding drill_lines
lines_more [] line d number = ap (λ (n : ℕ). drill_line d n d.fault line) (omega arith)
lines_more (first ∷ others) line d number =
    lines_more others line (drill_line d number d.fault first) (number + 1)
    ∙ ap (λ (n : ℕ). drill_line (drill_lines (drill_line d number d.fault first) (number + 1) others) n (drill_lines (drill_line d number d.fault first) (number + 1) others).fault line) (omega arith)

-- behind lines of which none was refused, the next one does what it does
pub drilled_more : (secret : List ℕ) (limit capacity : ℕ) (all : List (List ℕ)) (line : List ℕ) (does : Does) → (drilled secret limit capacity all).fault ≡ None
    → line_does (drilled secret limit capacity all).state (length all + 1) (line_of line) ≡ does
    → drilled secret limit capacity (all ++ line ∷ []) ≡ drill_with (drilled secret limit capacity all) (length all + 1) does
drilled_more secret limit capacity all line does fine is =
    let d : Drill = drilled secret limit capacity all in
    lines_more all line (record { state = opened_state secret limit capacity; printed = []; fault = None }) 1
    ∙ ap (λ (o : Option (ℕ × ScheduleFault)). drill_line d (1 + length all) o line) fine
    ∙ ap (λ (n : ℕ). drill_with d n (line_does d.state n (line_of line))) (omega arith)
    ∙ ap (λ (x : Does). drill_with d (length all + 1) x) is
