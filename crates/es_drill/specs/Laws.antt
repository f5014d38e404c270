-- What holds of every drill.
use Rattle.std.specs.Prelude.{◌≡◌, ◌≤◌, ℕ, List, [], ◌∷◌, ◌++◌, length, None, Some}
use Rattle.es_job.specs.declared.note.Note.{Note}
use Rattle.es_job.specs.Core.{Task, Answered, State, IsCore}
use Rattle.es_job.specs.Steps.{most_steps}
use Rattle.es_drill.specs.Drill.{drilled, run_made}
use Rattle.es_drill.specs.Drilled.{most_lines}
use Rattle.es_drill.specs.declared.ending.ScheduleFault.{ScheduleFault}
use Rattle.es_drill.specs.Output.{note_line, reply_line, fault_line}

-- the law of the core holds after the lines of any schedule of no more lines than are taken
abbrev pub DrillsLegally : Type 0
DrillsLegally = (secret : List ℕ) (limit capacity : ℕ) (lines : List (List ℕ)) → length lines ≤ most_lines → 1 ≤ limit → limit ≤ 200000 → IsCore secret limit (drilled secret limit capacity lines).state

-- a call that runs ends
abbrev pub RunsToTheEnd : Type 0
RunsToTheEnd = (secret : List ℕ) (limit : ℕ) (S : State) (actor : ℕ) (task : Task) → IsCore secret limit S → S.tasks actor ≡ Some task → (run_made most_steps S actor (Some task)).state.tasks actor ≡ None

-- the line of the reply to a call that was answered, which its caller's letter begins
abbrev pub answer_line : Answered → List ℕ
answer_line a = reply_line a.asked.caller a.reply.status a.place a.reply.body

-- The bytes are lines of notes and of faults, and between them the reply of each of these calls, once and in their order.
pub data Prints : List ℕ → List Answered → Type 0 where
  nothing : Prints [] []
  noted : {printed : List ℕ} {answered : List Answered} (actor : ℕ) (n : Note) → Prints printed answered → Prints (printed ++ note_line actor n) answered
  replied : {printed : List ℕ} {answered : List Answered} (a : Answered) → Prints printed answered → Prints (printed ++ answer_line a) (answered ++ a ∷ [])
  faulted : {printed : List ℕ} {answered : List Answered} (number : ℕ) (what : ScheduleFault) → Prints printed answered → Prints (printed ++ fault_line number what) answered

-- the replies that the lines of any schedule print are those of the calls that were answered, of which the law of the core speaks
abbrev pub PrintsAnswers : Type 0
PrintsAnswers = (secret : List ℕ) (limit capacity : ℕ) (lines : List (List ℕ)) → length lines ≤ most_lines → 1 ≤ limit → limit ≤ 200000
    → Prints (drilled secret limit capacity lines).printed (drilled secret limit capacity lines).state.answered
