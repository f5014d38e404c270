-- The steps of many actors on one vault, in any order.
use Rattle.std.specs.Prelude.{◌≡◌, ⊤, ℕ, ◌<◌, ◌≤◌, ◌==◌, Bool, true, List, [], ◌∷◌, ◌++◌, length, take, Option, Some, None, IfSome, if◌then◌else◌}
use Rattle.es_response.specs.Reply.{ReplyValue}
use Rattle.es_journal.specs.Journal.{told_at, IsLegalCall}
use Rattle.es_keys.specs.declared.kinds.RoleKey.{RoleKey}
use Rattle.es_keys.specs.Halves.{halves_of}
use Rattle.es_records.specs.Records.{who}
use Rattle.es_records.specs.Halves.{IsOf}
use Rattle.es_request.specs.declared.call.Call.{Call}
use Rattle.es_vault.specs.declared.look.Snapshot.{Snapshot}
use Rattle.es_vault.specs.World.{World, Entry, opening_world, replay, placed_after, security_count, weight_of}
use Rattle.es_vault.specs.Answer.{Asked, IsMade, weight_limit}
use Rattle.es_vault.specs.Replayable.{IsReplayable}
use Rattle.es_vault.specs.Vault.{VaultValue, IsSoundFor}
use Rattle.es_job.specs.Answer.{static_of, is_due, answer}
use Rattle.es_job.specs.Steps.{Phase, begun, publishing, changing, ended, Stepped, step_of}

-- an actor's call, and where it is
pub record Task : Type 0 where
  pub asked : Asked
  pub phase : Phase

-- a call that was answered: its place, whether it added an entry, and its reply
pub record Answered : Type 0 where
  pub asked : Asked
  pub place : ℕ
  pub changed : Bool
  pub reply : ReplyValue

-- the journal; the vault; the task of each actor that has one; and the calls that were answered, in their order
pub record State : Type 0 where
  pub journal : List Entry
  pub vault : VaultValue
  pub tasks : ℕ → Option Task
  pub answered : List Answered

-- what an actor does: it starts a call, or makes the next step of its call
pub data Move : Type 0 where
  starts : ℕ → Call → Move
  steps : ℕ → Move

-- the tasks with this one in the place of the actor's
abbrev pub with_task : (ℕ → Option Task) → ℕ → Option Task → ℕ → Option Task
with_task tasks actor task other = if other == actor then task else tasks other

-- what is left of a task, and the call that it answered if it has ended
abbrev pub task_left : Asked → Phase → Option Task
task_left asked begun = Some (record { asked = asked; phase = begun })
task_left asked (publishing s keys) = Some (record { asked = asked; phase = publishing s keys })
task_left asked (changing s) = Some (record { asked = asked; phase = changing s })
task_left asked (ended place changed reply) = None

abbrev pub answers_of : Asked → Phase → List Answered
answers_of asked begun = []
answers_of asked (publishing s keys) = []
answers_of asked (changing s) = []
answers_of asked (ended place changed reply) = record { asked = asked; place = place; changed = changed; reply = reply } ∷ []

abbrev pub with_entry : List Entry → Option Entry → List Entry
with_entry J None = J
with_entry J (Some e) = J ++ e ∷ []

-- after a step of an actor's task
abbrev pub after_step : State → ℕ → Asked → Stepped → State
after_step S actor asked stepped = record {
  journal = with_entry S.journal stepped.added;
  vault = stepped.vault;
  tasks = with_task S.tasks actor (task_left asked stepped.phase);
  answered = S.answered ++ answers_of asked stepped.phase;
}

-- an actor that has a task makes its next step; one that has none makes none
abbrev pub stepped_by : State → ℕ → Option Task → State
stepped_by S actor None = S
stepped_by S actor (Some task) = after_step S actor task.asked (step_of S.vault task.asked task.phase)

-- an actor that has no task starts one, under its own number as a caller; one that has a task goes on with that
abbrev pub started_by : State → ℕ → Call → Option Task → State
started_by S actor call None = record S { tasks = with_task S.tasks actor (Some (record { asked = record { caller = actor; call = call }; phase = begun })) }
started_by S actor call (Some task) = S

abbrev pub moved : State → Move → State
moved S (starts actor call) = started_by S actor call (S.tasks actor)
moved S (steps actor) = stepped_by S actor (S.tasks actor)

-- after all moves
abbrev pub after_moves : State → List Move → State
after_moves S [] = S
after_moves S (move ∷ moves) = after_moves (moved S move) moves

-- each call that is started is as calls are made
abbrev pub AllMade : List Move → Type 0
AllMade [] = ⊤
AllMade (starts actor call ∷ moves) = IsMade call × AllMade moves
AllMade (steps actor ∷ moves) = AllMade moves

-- a journal with an empty cache, and nobody who calls
abbrev pub opened : List ℕ → ℕ → ℕ → List Entry → State
opened secret limit capacity J = record {
  journal = J;
  vault = record { at = placed_after (opening_world secret) J; limit = limit; roles = record { entries = []; count = security_count J; capacity = capacity } };
  tasks = λ _. None;
  answered = [];
}

-- ---- what always holds

-- the reply is that after the entries before the call's own, or up to its place, and so is the entry
pub record IsLegal (limit : ℕ) (w : World) (J : List Entry) (a : Answered) : Type 0 where
  pub legal : IsLegalCall (answer limit w) J a.asked a.place a.changed
  pub reply : a.reply ≡ (told_at (answer limit w) J a.asked a.place a.changed).reply

-- places of one caller never fall, and that of a call that added an entry is above all earlier ones of its caller
pub record IsBehind (earlier later : Answered) : Type 0 where
  pub place : earlier.place ≤ later.place
  pub entry : later.changed ≡ true → earlier.place < later.place

abbrev pub AllBehind : Answered → List Answered → Type 0
AllBehind a [] = ⊤
AllBehind a (b ∷ bs) = (a.asked.caller ≡ b.asked.caller → IsBehind a b) × AllBehind a bs

abbrev pub AreAscending : List Answered → Type 0
AreAscending [] = ⊤
AreAscending (a ∷ others) = AllBehind a others × AreAscending others

abbrev pub AllLegal : ℕ → World → List Entry → List Answered → Type 0
AllLegal limit w J [] = ⊤
AllLegal limit w J (a ∷ others) = IsLegal limit w J a × AllLegal limit w J others

-- no call of the caller was answered at a later place
abbrev pub AllUpTo : List Answered → ℕ → ℕ → Type 0
AllUpTo [] caller place = ⊤
AllUpTo (a ∷ others) caller place = (a.asked.caller ≡ caller → a.place ≤ place) × AllUpTo others caller place

-- what a look found is the world after the first entries, up to its place
pub record IsOfPrefix (w : World) (J : List Entry) (s : Snapshot) : Type 0 where
  pub from : 0 < s.place
  pub to : s.place ≤ length J
  pub records : s.records ≡ (replay w (take s.place J)).records
  pub catalog : s.catalog ≡ (replay w (take s.place J)).catalog
  pub count : s.count ≡ security_count (take s.place J)

-- what a task holds of its look: who asks, at a place that isn't behind one that its caller has seen
pub record HoldsLook (w : World) (J : List Entry) (answered : List Answered) (asked : Asked) (s : Snapshot) : Type 0 where
  pub prefix : IsOfPrefix w J s
  pub own : static_of asked.call.request ≡ None
  pub known : who s.records asked.call.credentials asked.call.run_as asked.call.moment ≡ Some s.subject
  pub is_of : IsOf s.records s.subject.caller
  pub seen : AllUpTo answered asked.caller s.place

-- the halves that are still to be published are the last ones of the subject's
pub record IsLeft (s : Snapshot) (keys : List RoleKey) : Type 0 where
  pub done : List RoleKey
  pub all : done ++ keys ≡ halves_of s.subject
  pub first : RoleKey
  pub others : List RoleKey
  pub some : keys ≡ first ∷ others

-- all that a task holds is that of the first entries
abbrev pub Holds : World → List Entry → List Answered → Asked → Phase → Type 0
Holds w J answered asked begun = ⊤
Holds w J answered asked (publishing s keys) = HoldsLook w J answered asked s × IsLeft s keys
Holds w J answered asked (changing s) = HoldsLook w J answered asked s × (is_due s.records s.place asked.call ≡ true)
Holds w J answered asked (ended place changed reply) = ⊥

pub record IsHeld (w : World) (J : List Entry) (answered : List Answered) (actor : ℕ) (task : Task) : Type 0 where
  pub caller : task.asked.caller ≡ actor
  pub made : IsMade task.asked.call
  pub phase : Holds w J answered task.asked task.phase

-- What holds after all moves: the vault's world is that of the journal, and each composed role that is cached is that of the records that stand; the calls that were answered are legal in the journal, in an order in which no caller's places fall; and all that a task holds is that of the first entries.
pub record IsCore (secret : List ℕ) (limit : ℕ) (S : State) : Type 0 where
  pub sound : IsSoundFor secret S.journal S.vault
  pub limit_is : S.vault.limit ≡ limit
  pub legal : AllLegal limit (opening_world secret) S.journal S.answered
  pub ascending : AreAscending S.answered
  pub held : (actor : ℕ) → IfSome (S.tasks actor) (IsHeld (opening_world secret) S.journal S.answered actor)

-- From any journal that can be replayed and is within the limits, with an empty cache, whatever actors do in whatever order.
abbrev pub Core : Type 0
Core = (secret : List ℕ) (limit capacity : ℕ) (J : List Entry) (moves : List Move) → IsReplayable J → length J ≤ limit → limit ≤ 200000 → weight_of J ≤ weight_limit → AllMade moves
    → IsCore secret limit (after_moves (opened secret limit capacity J) moves)
