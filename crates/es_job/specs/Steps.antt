-- The steps of one call: what each does to the vault, what it notes, and what is left to do.
use Rattle.std.specs.Prelude.{◌≡◌, ⊤, ℕ, ◌+◌, ◌≤◌, ◌==◌, Bool, true, false, List, [], ◌∷◌, length, Option, Some, None, if◌then◌else◌}
use Rattle.es_response.specs.Reply.{ReplyValue}
use Rattle.es_keys.specs.declared.kinds.RoleKey.{RoleKey}
use Rattle.es_keys.specs.declared.kinds.Subject.{Subject}
use Rattle.es_keys.specs.Halves.{halves_of}
use Rattle.es_records.specs.Records.{who}
use Rattle.es_records.specs.Halves.{roles_of}
use Rattle.es_request.specs.declared.call.Call.{Call}
use Rattle.es_vault.specs.declared.look.Snapshot.{Snapshot}
use Rattle.es_vault.specs.World.{World, Entry}
use Rattle.es_vault.specs.Answer.{Asked, Outcome, refused, overfull, accepted, change_in}
use Rattle.es_vault.specs.Vault.{VaultValue, has_all, brought_all, with_roles, with_role, changed_by}
use Rattle.es_vault.specs.Steps.{snapshot_for}
use Rattle.es_job.specs.declared.note.Note.{Note}
use Rattle.es_job.specs.declared.note.Note.TheVariants as note
use Rattle.es_job.specs.declared.note.NextStep.{NextStep}
use Rattle.es_job.specs.declared.note.NextStep.TheVariants as next
use Rattle.es_job.specs.Answer.{static_of, is_due, shown_in}

-- Where a call is: it has begun; composed roles are to be published, of the halves of these names, by what its look found; a change is to be made that its look found granted; or it has ended, at a place, with or without an entry, and with a reply.
pub data Phase : Type 0 where
  begun : Phase
  publishing : Snapshot → List RoleKey → Phase
  changing : Snapshot → Phase
  ended : ℕ → Bool → ReplyValue → Phase

-- a step: what it notes, the vault after it, where the call is then, and the entry that it added
pub record Stepped : Type 0 where
  pub note : Note
  pub vault : VaultValue
  pub phase : Phase
  pub added : Option Entry

-- the world that a look found
abbrev pub world_of : Snapshot → World
world_of s = record { records = s.records; catalog = s.catalog }

-- where a call is when each of its halves is at hand
abbrev pub next_of : Snapshot → Call → Phase
next_of s call = if is_due s.records s.place call then changing s else ended s.place false (shown_in (world_of s) s.place call)

-- where it is when composed roles of these names are still to be published
abbrev pub next_with : Snapshot → List RoleKey → Call → Phase
next_with s [] call = next_of s call
next_with s (key ∷ keys) call = publishing s (key ∷ keys)

-- a step that leaves the vault
abbrev pub leaves : VaultValue → Note → Phase → Stepped
leaves vault n phase = record { note = n; vault = vault; phase = phase; added = None }

-- a look of a subject: a hit brings its halves to the front; a miss leaves all
abbrev pub found_step : VaultValue → Call → Snapshot → Bool → Stepped
found_step vault call s true = record { note = note.Hit s.place s.count; vault = with_roles vault (brought_all (halves_of s.subject) vault.roles.entries); phase = next_of s call; added = None }
found_step vault call s false = leaves vault (note.Miss s.place s.count) (publishing s (halves_of s.subject))

-- a look: nobody is known, or a subject
abbrev pub look_step : VaultValue → Call → Option Subject → Stepped
look_step vault call None = leaves vault (note.Unknown vault.at.place) (ended vault.at.place false (shown_in vault.at.world vault.at.place call))
look_step vault call (Some subject) = found_step vault call (snapshot_for vault subject) (has_all vault.roles.entries (halves_of subject))

-- the first step: a request that is refused by its own text sees the place alone, any other looks
abbrev pub first_step : VaultValue → Call → Option ReplyValue → Stepped
first_step vault call (Some reply) = leaves vault (note.Seen vault.at.place) (ended vault.at.place false reply)
first_step vault call None = look_step vault call (who vault.at.world.records call.credentials call.run_as call.moment)

-- a composed role is published, if no user, role or key was changed and nothing cleared since the look
abbrev pub publish_step : VaultValue → Call → Snapshot → RoleKey → List RoleKey → Bool → Stepped
publish_step vault call s key keys true = record { note = note.Published; vault = with_role vault key (roles_of s.records key); phase = next_with s keys call; added = None }
publish_step vault call s key keys false = leaves vault (note.Stale s.count vault.roles.count) (next_with s keys call)

-- a change is judged at the present place, and made where it is accepted
abbrev pub change_step : VaultValue → Outcome → Stepped
change_step vault (refused reply) = leaves vault (note.Refused vault.at.place) (ended vault.at.place false reply)
change_step vault (overfull reply) = leaves vault (note.Full vault.at.place) (ended vault.at.place false reply)
change_step vault (accepted reply e) = record { note = note.Changed (vault.at.place + 1); vault = changed_by vault e; phase = ended (vault.at.place + 1) true reply; added = Some e }

-- The next step of a call. Under the law of the core a call that has a next step hasn't ended, and one that publishes has something to publish.
unfoldable pub step_of : VaultValue → Asked → Phase → Stepped
step_of vault asked begun = first_step vault asked.call (static_of asked.call.request)
step_of vault asked (publishing s []) = leaves vault note.Published (next_of s asked.call)
step_of vault asked (publishing s (key ∷ keys)) = publish_step vault asked.call s key keys (s.count == vault.roles.count)
step_of vault asked (changing s) = change_step vault (change_in vault.limit vault.at asked)
step_of vault asked (ended place changed reply) = leaves vault (note.Seen vault.at.place) (ended place changed reply)

-- whether a step notes that each half was cached
abbrev pub is_hit : Note → Bool
is_hit (note.Seen place) = false
is_hit (note.Hit place count) = true
is_hit (note.Miss place count) = false
is_hit (note.Unknown place) = false
is_hit note.Published = false
is_hit (note.Stale began stands) = false
is_hit (note.Changed place) = false
is_hit (note.Refused place) = false
is_hit (note.Full place) = false

-- whether composed roles are still to be published
abbrev pub is_publishing : Phase → Bool
is_publishing begun = false
is_publishing (publishing s keys) = true
is_publishing (changing s) = false
is_publishing (ended place changed reply) = false

-- whether no local work is due after a step: the reply of a change, and of what is refused by its own text, is made with the step
abbrev pub ready_after : Note → Phase → Bool
ready_after (note.Seen place) phase = true
ready_after (note.Hit place count) phase = false
ready_after (note.Miss place count) phase = false
ready_after (note.Unknown place) phase = false
ready_after note.Published phase = is_publishing phase
ready_after (note.Stale began stands) phase = is_publishing phase
ready_after (note.Changed place) phase = true
ready_after (note.Refused place) phase = true
ready_after (note.Full place) phase = true

-- what the next step does
abbrev pub first_kind : Option ReplyValue → NextStep
first_kind None = next.Look
first_kind (Some reply) = next.Seen

abbrev pub next_step_of : Call → Phase → NextStep
next_step_of call begun = first_kind (static_of call.request)
next_step_of call (publishing s keys) = next.PublishRole
next_step_of call (changing s) = next.Change
next_step_of call (ended place changed reply) = next.Done

-- as many steps end every call: a look, four composed roles and a change
abbrev pub most_steps : ℕ
most_steps = 6

-- how many steps are left at the most
unfoldable pub steps_left : Phase → ℕ
steps_left begun = most_steps
steps_left (publishing s keys) = length keys + 2
steps_left (changing s) = 1
steps_left (ended place changed reply) = 0

-- what a look found is past: neither its place nor its count is ahead of the vault's, and where the counts are equal the records are
pub record IsPast (s : Snapshot) (vault : VaultValue) : Type 0 where
  pub place : s.place ≤ vault.at.place
  pub count : s.count ≤ vault.roles.count
  pub same : s.count ≡ vault.roles.count → s.records ≡ vault.at.world.records

-- the same of what a call holds
abbrev pub HoldsPast : Phase → VaultValue → Type 0
HoldsPast begun vault = ⊤
HoldsPast (publishing s keys) vault = IsPast s vault
HoldsPast (changing s) vault = IsPast s vault
HoldsPast (ended place changed reply) vault = ⊤
