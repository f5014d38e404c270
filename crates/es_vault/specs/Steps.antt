-- What the calls of a vault answer, and how they leave it.
use Rattle.std.specs.Prelude.{◌≡◌, ⊤, ℕ, Bool, true, false, List, Option, Some, None}
use Rattle.es_keys.specs.declared.kinds.Subject.{Subject}
use Rattle.es_keys.specs.Halves.{halves_of}
use Rattle.es_records.specs.Halves.{halves_in, IsOf}
use Rattle.es_vault.specs.declared.look.Snapshot.{Snapshot}
use Rattle.es_vault.specs.declared.look.Look.{Look}
use Rattle.es_vault.specs.declared.look.Look.TheVariants.{Hit, Miss, Unknown}
use Rattle.es_vault.specs.declared.changing.ChangeAnswer.{ChangeAnswer}
use Rattle.es_vault.specs.declared.changing.ChangeAnswer.TheVariants.{Changed, Refused, Full}
use Rattle.es_vault.specs.World.{Entry}
use Rattle.es_vault.specs.Changes.{Verdict, refuses, accepts, undrawn}
use Rattle.es_vault.specs.Replayable.{FitsAt}
use Rattle.es_vault.specs.Answer.{Outcome, refused, overfull, accepted}
use Rattle.es_vault.specs.Names.{keys_for}
use Rattle.es_vault.specs.Vault.{VaultValue, has_all, brought_all, with_roles, changed_by}

-- the world of the vault as a look finds it, for the subject
abbrev pub snapshot_for : VaultValue → Subject → Snapshot
snapshot_for vault subject = record { subject = subject; records = vault.at.world.records; catalog = vault.at.world.catalog; place = vault.at.place; count = vault.roles.count }

-- A look of who was found: nobody is unknown; a subject each of whose halves is cached is a hit, which brings them to the front one after the other; any other is a miss, which leaves all.
abbrev pub Looks : VaultValue → VaultValue → Option Subject → Look → Type 0
Looks old new found (Unknown place) = (found ≡ None) × (place ≡ old.at.place) × (new ≡ old)
Looks old new found (Hit snapshot halves) =
    (found ≡ Some snapshot.subject) × (snapshot ≡ snapshot_for old snapshot.subject) × (has_all old.roles.entries (halves_of snapshot.subject) ≡ true)
    × (halves ≡ halves_in old.at.world.records snapshot.subject) × (new ≡ with_roles old (brought_all (halves_of snapshot.subject) old.roles.entries))
Looks old new found (Miss snapshot keys) =
    (found ≡ Some snapshot.subject) × (snapshot ≡ snapshot_for old snapshot.subject) × (has_all old.roles.entries (halves_of snapshot.subject) ≡ false)
    × (keys ≡ keys_for snapshot.subject) × (new ≡ old)

-- where a key calls, it is the one that stands at its id in the records that the look found
abbrev pub IsOfFound : Look → Type 0
IsOfFound (Unknown place) = ⊤
IsOfFound (Hit snapshot halves) = IsOf snapshot.records snapshot.subject.caller
IsOfFound (Miss snapshot keys) = IsOf snapshot.records snapshot.subject.caller

-- A change that came to this: what is accepted is its entry, and its place is that of the entry; what is refused, or too much for the journal, leaves all.
abbrev pub Changes : VaultValue → VaultValue → Outcome → ChangeAnswer → Type 0
Changes old new outcome (Changed place reply) = (e : Entry) × (outcome ≡ accepted reply e) × (new ≡ changed_by old e) × (place ≡ new.at.place)
Changes old new outcome (Refused place reply) = (outcome ≡ refused reply) × (new ≡ old) × (place ≡ old.at.place)
Changes old new outcome (Full place reply) = (outcome ≡ overfull reply) × (new ≡ old) × (place ≡ old.at.place)

-- what it accepts fits at the place
abbrev pub VerdictFits : ℕ → Verdict → Type 0
VerdictFits place (refuses reply) = ⊤
VerdictFits place (accepts reply change) = FitsAt place change
VerdictFits place undrawn = ⊤
