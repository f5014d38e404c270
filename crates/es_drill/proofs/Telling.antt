-- What a schedule prints are notes, and the replies of the calls that were answered.
use Rattle.std.proofs.Common.{◌≡◌, ℕ, zero, suc, ◌+◌, ◌≤◌, List, [], ◌∷◌, ◌++◌, length, Option, Some, None, refl, sym, ap, subst, ◌∙◌, append-nil, append_assoc, arith}
use Rattle.std.specs.Prelude.{IfSome}
use Rattle.es_request.specs.declared.call.Call.{Call}
use Rattle.es_vault.specs.World.{opening_world}
use Rattle.es_vault.specs.Answer.{Asked}
use Rattle.es_job.specs.declared.note.Note.{Note}
use Rattle.es_job.specs.Steps.{Phase, begun, publishing, changing, ended, step_of, most_steps}
use Rattle.es_job.specs.Core.{Task, Answered, State, started_by, answers_of, IsHeld, IsCore}
use Rattle.es_drill.specs.declared.ending.ScheduleFault.{ScheduleFault}
use Rattle.es_drill.specs.Lines as lines
use Rattle.es_drill.specs.Lines.{Line, Texts, line_of, call_at}
use Rattle.es_drill.specs.Output.{note_line, reply_line, reply_behind}
use Rattle.es_drill.specs.Drill.{step_made, run_made, Does, faults, makes, call_does, steps_do, line_does, Drill, drill_with, drill_line, drill_lines, drilled}
use Rattle.es_drill.specs.Drilled.{most_lines}
use Rattle.es_drill.specs.Laws.{answer_line, Prints, PrintsAnswers}
use Rattle.es_drill.proofs.Making.{step_core, line_core, with_core, begun_core}

-- what stands behind it may be nothing
behind_nothing : (printed : List ℕ) (answered : List Answered) (line : List ℕ) → Prints (printed ++ line) answered → Prints (printed ++ (line ++ [])) (answered ++ [])
behind_nothing printed answered line prints =
    subst (λ (q : List ℕ). Prints q (answered ++ [])) (ap (λ (q : List ℕ). printed ++ q) (sym (append-nil line)))
    (subst (λ (r : List Answered). Prints (printed ++ line) r) (sym (append-nil answered)) prints)

-- the note of a step, and the reply behind it
note_prints : {printed : List ℕ} {answered : List Answered} (actor : ℕ) (asked : Asked) (n : Note) (phase : Phase) → asked.caller ≡ actor → Prints printed answered
    → Prints (printed ++ (note_line actor n ++ reply_behind actor phase)) (answered ++ answers_of asked phase)
note_prints {printed} {answered} actor asked n begun own prints = behind_nothing printed answered (note_line actor n) (Prints.noted actor n prints)
note_prints {printed} {answered} actor asked n (publishing s keys) own prints = behind_nothing printed answered (note_line actor n) (Prints.noted actor n prints)
note_prints {printed} {answered} actor asked n (changing s) own prints = behind_nothing printed answered (note_line actor n) (Prints.noted actor n prints)
note_prints {printed} {answered} actor asked n (ended place changed reply) own prints =
    let a : Answered = record { asked = asked; place = place; changed = changed; reply = reply } in
    let line_is : answer_line a ≡ reply_line actor reply.status place reply.body = ap (λ (c : ℕ). reply_line c reply.status place reply.body) own in
    subst (λ (q : List ℕ). Prints q (answered ++ a ∷ []))
    (ap (λ (q : List ℕ). (printed ++ note_line actor n) ++ q) line_is ∙ append_assoc printed (note_line actor n) (reply_line actor reply.status place reply.body))
    (Prints.replied a (Prints.noted actor n prints))

-- a call that starts isn't answered
started_answered : (S : State) (actor : ℕ) (call : Call) (o : Option Task) → (started_by S actor call o).answered ≡ S.answered
started_answered S actor call None = refl
started_answered S actor call (Some task) = refl

-- ---- steps

module _ (secret : List ℕ) (limit : ℕ) where
  -- a task's caller is its actor
  own_caller : (S : State) (actor : ℕ) (task : Task) → IsCore secret limit S → S.tasks actor ≡ Some task → task.asked.caller ≡ actor
  own_caller S actor task core is =
      let held : IsHeld (opening_world secret) S.journal S.answered actor task =
      subst (λ (o : Option Task). IfSome o (IsHeld (opening_world secret) S.journal S.answered actor)) is (core.held actor) in
      held.caller

  step_prints : {printed : List ℕ} (S : State) (actor : ℕ) (task : Task) → IsCore secret limit S → S.tasks actor ≡ Some task → Prints printed S.answered
      → Prints (printed ++ (step_made S actor task).printed) (step_made S actor task).state.answered
  unfolding step_made
  step_prints {printed} S actor task core is prints =
      note_prints actor task.asked (step_of S.vault task.asked task.phase).note (step_of S.vault task.asked task.phase).phase (own_caller S actor task core is) prints

  run_prints : (printed : List ℕ) (count : ℕ) (S : State) (actor : ℕ) (o : Option Task) → IsCore secret limit S → S.tasks actor ≡ o → Prints printed S.answered
      → Prints (printed ++ (run_made count S actor o).printed) (run_made count S actor o).state.answered
  unfolding run_made
  run_prints printed zero S actor o core is prints = subst (λ (q : List ℕ). Prints q S.answered) (sym (append-nil printed)) prints
  run_prints printed (suc count) S actor None core is prints = subst (λ (q : List ℕ). Prints q S.answered) (sym (append-nil printed)) prints
  run_prints printed (suc count) S actor (Some task) core is prints =
      let next : State = (step_made S actor task).state in
      subst (λ (q : List ℕ). Prints q (run_made count next actor (next.tasks actor)).state.answered)
      (append_assoc printed (step_made S actor task).printed (run_made count next actor (next.tasks actor)).printed)
      (run_prints (printed ++ (step_made S actor task).printed) count next actor (next.tasks actor) (step_core secret limit S actor task core is) refl (step_prints S actor task core is prints))

  -- ---- lines

  -- what a line makes, behind what was printed
  abbrev DoesPrint : List ℕ → Does → Type 0
  DoesPrint printed (faults what) = Unit {0}
  DoesPrint printed (makes made) = Prints (printed ++ made.printed) made.state.answered

  module _ {printed : List ℕ} (S : State) (core : IsCore secret limit S) (prints : Prints printed S.answered) (number : ℕ) where
    call_prints : (actor : ℕ) (texts : Texts) (o : Option Task) → S.tasks actor ≡ o → DoesPrint printed (call_does S number actor texts o)
    call_prints actor texts None is =
        subst (λ (r : List Answered). Prints (printed ++ []) r) (sym (started_answered S actor (call_at number texts) (S.tasks actor)))
        (subst (λ (q : List ℕ). Prints q S.answered) (sym (append-nil printed)) prints)
    call_prints actor texts (Some task) is = tt

    steps_print : (count actor : ℕ) (o : Option Task) → S.tasks actor ≡ o → DoesPrint printed (steps_do count S actor o)
    steps_print count actor None is = tt
    steps_print count actor (Some task) is = run_prints printed count S actor (Some task) core is prints

    line_prints : (line : Option Line) → DoesPrint printed (line_does S number line)
    unfolding line_does
    line_prints None = tt
    line_prints (Some (lines.calls actor texts)) = call_prints actor texts (S.tasks actor) refl
    line_prints (Some (lines.steps actor)) = steps_print 1 actor (S.tasks actor) refl
    line_prints (Some (lines.runs actor)) = steps_print most_steps actor (S.tasks actor) refl

  with_prints : (d : Drill) (number : ℕ) (does : Does) → Prints d.printed d.state.answered → DoesPrint d.printed does → Prints (drill_with d number does).printed (drill_with d number does).state.answered
  with_prints d number (faults what) prints more = Prints.faulted number what prints
  with_prints d number (makes made) prints more = more

  lines_print : (all : List (List ℕ)) (d : Drill) (number : ℕ) → number + length all ≤ most_lines + 1 → IsCore secret limit d.state → Prints d.printed d.state.answered
      → Prints (drill_lines d number all).printed (drill_lines d number all).state.answered
  unfolding drill_lines
  lines_print [] d number few core prints = prints
  lines_print (line ∷ others) d number few core prints =
      lines_print others (drill_line d number d.fault line) (number + 1) (omega (arith, few)) (one_core d.fault) (one_prints d.fault)
    where
      does : Does
      does = line_does d.state number (line_of line)

      one_core : (fault : Option (ℕ × ScheduleFault)) → IsCore secret limit (drill_line d number fault line).state
      one_core None = with_core secret limit d.state core number (omega (arith, few)) d does refl (line_core secret limit d.state core number (omega (arith, few)) (line_of line))
      one_core (Some what) = core

      one_prints : (fault : Option (ℕ × ScheduleFault)) → Prints (drill_line d number fault line).printed (drill_line d number fault line).state.answered
      one_prints None = with_prints d number does prints (line_prints d.state core prints number (line_of line))
      one_prints (Some what) = prints

-- the replies of any schedule
pub prints_answers : PrintsAnswers
unfolding drill_lines
prints_answers secret limit capacity all few some most =
    lines_print secret limit all (drilled secret limit capacity []) 1 (omega (arith, few)) (begun_core secret limit capacity some most) Prints.nothing
