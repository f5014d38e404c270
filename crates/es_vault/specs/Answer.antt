-- What a call that asks for a change is told.
use Rattle.std.specs.Prelude.{◌≡◌, ℕ, ◌+◌, ◌≤◌, Bool, true, false, nat_le, List, Option, Some, None, if◌then◌else◌}
use Rattle.es_edge.specs.declared.chance.Draw.{Draw}
use Rattle.es_edge.specs.declared.chance.Draw.TheVariants as draw
use Rattle.es_response.specs.Reply.{ReplyValue}
use Rattle.es_reply.specs.Bodies as reply
use Rattle.es_journal.specs.Journal.{Told}
use Rattle.es_keys.specs.declared.kinds.Subject.{Subject}
use Rattle.es_request.specs.declared.call.Call.{Call}
use Rattle.es_request.specs.Requests.{draws, IsTimely}
use Rattle.es_vault.specs.Decision.{Decision, no_caller, no_run_as, denied, denied_cluster, granted, decision}
use Rattle.es_vault.specs.World.{Change, Entry, PlacedWorld}
use Rattle.es_vault.specs.Changes.{Verdict, refuses, accepts, undrawn, verdict_in}
use Rattle.es_vault.specs.Replayable.{last_moment}

-- a call of a caller, by its number
pub record Asked : Type 0 where
  pub caller : ℕ
  pub call : Call

-- whether anything was drawn, or failed to be
abbrev pub is_drawn : Draw → Bool
is_drawn draw.NotDrawn = false
is_drawn draw.Failed = true
is_drawn (draw.Bytes drawn) = true

-- a call as it is made: its moment and the duration of a key that it asks for are within their bounds, and it was drawn for exactly where its request draws
pub record IsMade (call : Call) : Type 0 where
  pub moment : call.moment ≤ last_moment
  pub timely : IsTimely call.request
  pub drawn : is_drawn call.draw ≡ draws call.request

-- what a journal may weigh, in bytes
abbrev pub weight_limit : ℕ
weight_limit = 134217728

-- The refusal of an entry of this weight where the journal has no room: it holds so many entries as it may, or too many bytes.
abbrev pub full : ℕ → PlacedWorld → ℕ → Option ReplyValue
full limit at asks =
    if nat_le limit at.place then Some (reply.journal_full_entries at.place limit)
    else if nat_le (at.weight + asks) weight_limit then None
    else Some (reply.journal_full_bytes at.weight weight_limit asks)

-- what comes of a change: it is refused, the journal has no room for it, or it is accepted, and this is its entry
pub data Outcome : Type 0 where
  refused : ReplyValue → Outcome
  overfull : ReplyValue → Outcome
  accepted : ReplyValue → Entry → Outcome

-- what comes of what passes the state, unless the journal is full
abbrev pub unless_full : Option ReplyValue → Outcome → Outcome
unless_full None outcome = outcome
unless_full (Some reply) outcome = overfull reply

-- what comes of a verdict: the journal is judged before the draw
abbrev pub outcome_of : ℕ → PlacedWorld → Asked → Verdict → Outcome
outcome_of limit at asked (refuses reply) = refused reply
outcome_of limit at asked (accepts reply change) =
    unless_full (full limit at asked.call.weight) (accepted reply (record { caller = asked.caller; weight = asked.call.weight; change = change }))
outcome_of limit at asked undrawn = unless_full (full limit at asked.call.weight) (refused reply.no_entropy)

-- what comes of a change by what is decided of it
abbrev pub outcome_for : ℕ → PlacedWorld → Asked → Decision → Outcome
outcome_for limit at asked no_caller = refused reply.unauthorized
outcome_for limit at asked (no_run_as caller target) = refused (reply.denied_run_as caller target)
outcome_for limit at asked (denied subject action index) = refused (reply.denied subject action index)
outcome_for limit at asked (denied_cluster subject action) = refused (reply.denied_cluster subject action)
outcome_for limit at asked (granted subject) = outcome_of limit at asked (verdict_in at.world (at.place + 1) subject asked.call.moment asked.call.draw asked.call.request)

-- What comes of a change in a world at a place.
unfoldable pub change_in : ℕ → PlacedWorld → Asked → Outcome
change_in limit at asked = outcome_for limit at asked (decision at.world.records asked.call)

-- what is told of an outcome: its reply, and the entry of what is accepted
abbrev pub told : Outcome → Told ReplyValue Entry
told (refused reply) = record { reply = reply; entry = None }
told (overfull reply) = record { reply = reply; entry = None }
told (accepted reply e) = record { reply = reply; entry = Some e }
