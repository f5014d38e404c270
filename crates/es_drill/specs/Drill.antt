-- What a drill does with the lines of a schedule, and what it prints: the steps of up to 26 actors on one vault, in the order that the lines say.
use Rattle.std.specs.Prelude.{ℕ, zero, suc, ◌+◌, List, [], ◌∷◌, ◌++◌, Option, Some, None}
use Rattle.es_vault.specs.World.{opening_entry}
use Rattle.es_job.specs.Steps.{step_of, most_steps}
use Rattle.es_job.specs.Core.{Task, State, starts, moved, after_step, opened}
use Rattle.es_drill.specs.declared.ending.ScheduleFault.{ScheduleFault}
use Rattle.es_drill.specs.declared.ending.ScheduleFault.TheVariants as fault
use Rattle.es_drill.specs.Lines as lines
use Rattle.es_drill.specs.Lines.{Line, Texts, line_of, call_at}
use Rattle.es_drill.specs.Output.{note_line, reply_behind, fault_line}

-- a state, and what was printed on the way to it
pub record Made : Type 0 where
  pub state : State
  pub printed : List ℕ

-- nothing was done
abbrev pub stays : State → Made
stays S = record { state = S; printed = [] }

-- the next step of an actor's task
unfoldable pub step_made : State → ℕ → Task → Made
step_made S actor task = record {
  state = after_step S actor task.asked (step_of S.vault task.asked task.phase);
  printed = note_line actor (step_of S.vault task.asked task.phase).note ++ reply_behind actor (step_of S.vault task.asked task.phase).phase;
}

-- one after the other
abbrev pub behind : Made → Made → Made
behind first second = record { state = second.state; printed = first.printed ++ second.printed }

-- so many steps of an actor's task, or as many as it has
unfoldable pub run_made : ℕ → State → ℕ → Option Task → Made
run_made zero S actor task = stays S
run_made (suc count) S actor None = stays S
run_made (suc count) S actor (Some task) = behind (step_made S actor task) (run_made count (step_made S actor task).state actor ((step_made S actor task).state.tasks actor))

-- what a line does: it is refused, or it makes this
pub data Does : Type 0 where
  faults : ScheduleFault → Does
  makes : Made → Does

-- a call starts where the actor has no task
abbrev pub call_does : State → ℕ → ℕ → Texts → Option Task → Does
call_does S number actor texts None = makes (stays (moved S (starts actor (call_at number texts))))
call_does S number actor texts (Some task) = faults fault.BusyActor

-- steps are made where it has one
abbrev pub steps_do : ℕ → State → ℕ → Option Task → Does
steps_do count S actor None = faults fault.IdleActor
steps_do count S actor (Some task) = makes (run_made count S actor (Some task))

-- what the line of this number does
unfoldable pub line_does : State → ℕ → Option Line → Does
line_does S number None = faults fault.BadLine
line_does S number (Some (lines.calls actor texts)) = call_does S number actor texts (S.tasks actor)
line_does S number (Some (lines.steps actor)) = steps_do 1 S actor (S.tasks actor)
line_does S number (Some (lines.runs actor)) = steps_do most_steps S actor (S.tasks actor)

-- ---- the lines of a schedule

-- where a drill is, what it has printed, and the number of the line that it was refused at, if one was, with what is wrong there
pub record Drill : Type 0 where
  pub state : State
  pub printed : List ℕ
  pub fault : Option (ℕ × ScheduleFault)

-- a line that is refused ends the drill; one that makes something is printed behind what was
abbrev pub drill_with : Drill → ℕ → Does → Drill
drill_with d number (faults what) = record { state = d.state; printed = d.printed ++ fault_line number what; fault = Some (number, what) }
drill_with d number (makes made) = record { state = made.state; printed = d.printed ++ made.printed; fault = None }

-- the line of this number, where none was refused before
abbrev pub drill_line : Drill → ℕ → Option (ℕ × ScheduleFault) → List ℕ → Drill
drill_line d number None line = drill_with d number (line_does d.state number (line_of line))
drill_line d number (Some what) line = d

-- the lines from the one of this number on
unfoldable pub drill_lines : Drill → ℕ → List (List ℕ) → Drill
drill_lines d number [] = d
drill_lines d number (line ∷ others) = drill_lines (drill_line d number d.fault line) (number + 1) others

-- the state that a drill begins with
abbrev pub opened_state : List ℕ → ℕ → ℕ → State
opened_state secret limit capacity = opened secret limit capacity (opening_entry ∷ [])

-- what these lines do, from the first one of a schedule on, counted from 1
abbrev pub drilled : List ℕ → ℕ → ℕ → List (List ℕ) → Drill
drilled secret limit capacity all = drill_lines (record { state = opened_state secret limit capacity; printed = []; fault = None }) 1 all
