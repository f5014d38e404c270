-- What the words of a command line ask, and what the program does for them.
use Rattle.std.specs.Prelude.{◌≡◌, ℕ, if◌then◌else◌, List, [], ◌∷◌, codes, bytes_eq, Option, Some, None, option_map}
use Rattle.es_edge.specs.Draws.{Lots}
use Rattle.es_edge.specs.Moves.{Input, Output}
use Rattle.es_edge.specs.Sends.{Sends}
use Rattle.es_edge.specs.declared.sending.Sent.{Sent}
use Rattle.es_edge.specs.declared.sending.Sent.TheVariants as sent
use Rattle.es_wire.specs.declared.receipt.LinkEnd.{LinkEnd}
use Rattle.es_wire.specs.declared.receipt.LinkEnd.TheVariants as end
use Rattle.es_session.specs.Legal.{HasCountedPlaces}
use Rattle.es_session.specs.Session.{IsRunOf}
use Rattle.es_drive.specs.declared.run.Ran.{Ran}
use Rattle.es_vault.specs.World.{opening_world, opening_entry}
use Rattle.es_vault.specs.declared.vault.Limits.{Limits}
use Rattle.es_drive.specs.Answer.{node}
use Rattle.es_drive.specs.Turns.{caller}
use Rattle.es_drive.specs.Hits.{HasHits, opened_vault}
use Rattle.es_drill.specs.declared.ending.Drilled.{Drilled}
use Rattle.es_drill.specs.declared.ending.Drilled.TheVariants as drilled
use Rattle.es_drill.specs.Drilled.{HasDrilled}
use Rattle.esec_node.specs.Options.{Options, options_from, no_options, limits_of}
use Rattle.esec_node.specs.declared.given.Running as declared
use Rattle.esec_node.specs.declared.given.Asked as declared_asked
use Rattle.esec_node.specs.declared.given.Asked.TheVariants as given
use Rattle.esec_node.specs.declared.command.Ended.{Ended}

-- what a node is given: the secret of its one user, and how much it may hold
pub record Running : Type 0 where
  pub secret : List ℕ
  pub limits : Limits

-- the same, with the secret lent
abbrev pub running_as : declared.Running → Running
running_as r = record { secret = r.secret.now; limits = r.limits }

-- the options of a node, where the secret is among them
abbrev pub running_with : Options → Option (List ℕ) → Option Running
running_with o None = None
running_with o (Some secret) = Some (record { secret = secret; limits = limits_of o })

abbrev pub running_of : Option Options → Option Running
running_of None = None
running_of (Some o) = running_with o o.admin

-- what the words of a command line ask for: the requests of the source are answered, or the lines of a schedule are taken
pub data Asked : Type 0 where
  runs : Running → Asked
  drills : Running → Asked

-- the same, with the secret lent
abbrev pub asked_as : declared_asked.Asked → Asked
asked_as (given.Run r) = runs (running_as r)
asked_as (given.Drill r) = drills (running_as r)

-- what the words `run` and `drill` ask for, each with `--admin SECRET` and more options behind it
abbrev pub asked : List (List ℕ) → Option Asked
asked [] = None
asked (command ∷ words) =
    if bytes_eq command (codes "run") then option_map runs (running_of (options_from (Some no_options) words))
    else if bytes_eq command (codes "drill") then option_map drills (running_of (options_from (Some no_options) words))
    else None

-- the line for all other words
abbrev pub usage_line : List ℕ
usage_line = codes "usage: esec run|drill|load|serve --admin SECRET\n"

-- 2, or 4 where the line couldn't be written
abbrev pub usage_status : Sent → ℕ
usage_status sent.Ok = 2
usage_status sent.WriteFault = 4

-- the exit status of a connection's end
abbrev pub status_of : LinkEnd → ℕ
status_of end.Done = 0
status_of end.Truncated = 5
status_of end.BadHead = 6
status_of end.ReadFault = 3
status_of end.WriteFault = 4
status_of end.Spent = 8
status_of end.NoMemory = 7

-- the exit status of a drill's end
abbrev pub drill_status : Drilled → ℕ
drill_status drilled.Done = 0
drill_status (drilled.BadSchedule line what) = 10
drill_status drilled.ReadFault = 3
drill_status drilled.WriteFault = 4
drill_status drilled.Spent = 8
drill_status drilled.NoMemory = 7

-- the connection was run to its end, and so many looks found each of their halves cached
abbrev pub HasRun : Running → Option ℕ → Input → Input → Output → Output → Lots → Lots → Ended → Type 0
HasRun running clock old new out out_new lots lots_new ended =
    (ran : Ran) × (ended.ran ≡ Some ran) × (ended.status ≡ status_of ran.ended)
    × IsRunOf (node running.limits.journal (opening_world running.secret)) caller clock (opening_entry ∷ []) ran.receipts ran.ended ran.place old new out out_new lots lots_new
    × HasCountedPlaces 1 ran.receipts
    × HasHits (opened_vault running.secret running.limits.journal running.limits.role_cache) old new ran.receipts ran.hits

-- the lines of a schedule were taken to its end
abbrev pub HasTaken : Running → Input → Input → Output → Output → Ended → Type 0
HasTaken running old new out out_new ended =
    (how : Drilled) × (ended.ran ≡ None) × (ended.status ≡ drill_status how)
    × HasDrilled running.secret running.limits.journal running.limits.role_cache old new out out_new how

-- The usage line was written, and nothing else was done; or the connection was run to its end; or the lines of a schedule were taken to its end, and nothing was drawn.
abbrev pub EndsAs : Option Asked → Option ℕ → Input → Input → Output → Output → Lots → Lots → Ended → Type 0
EndsAs None clock old new out out_new lots lots_new ended =
    (sent : Sent) × Sends out out_new usage_line sent × (ended.status ≡ usage_status sent) × (ended.ran ≡ None) × (new ≡ old) × (lots_new ≡ lots)
EndsAs (Some (runs running)) clock old new out out_new lots lots_new ended = HasRun running clock old new out out_new lots lots_new ended
EndsAs (Some (drills running)) clock old new out out_new lots lots_new ended = HasTaken running old new out out_new ended × (lots_new ≡ lots)
