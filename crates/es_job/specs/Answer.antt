-- What a node answers to a call after a journal, and the entry that the call adds.
use Rattle.std.specs.Prelude.{ℕ, Bool, ◌&&◌, not, is_some, nat_le, List, Option, Some, None, if◌then◌else◌}
use Rattle.std.specs.Option.{option_or}
use Rattle.std.specs.FinMap as map
use Rattle.es_response.specs.Reply.{ReplyValue}
use Rattle.es_reply.specs.Bodies.{not_built_reply, place_not_reached}
use Rattle.es_journal.specs.Journal.{Told}
use Rattle.es_priv.specs.declared.kinds.Action.{Action}
use Rattle.es_priv.specs.declared.kinds.Action.TheVariants as action
use Rattle.es_keys.specs.declared.kinds.Subject.{Subject}
use Rattle.es_decide.specs.declared.kinds.Halves.{Halves}
use Rattle.es_decide.specs.Decisions.{permitted}
use Rattle.es_records.specs.Records.{RecordsValue}
use Rattle.es_records.specs.Halves.{halves_in}
use Rattle.es_records.specs.Keys.{keys_of}
use Rattle.es_catalog.specs.Catalog.{text_cmp, CatalogValue}
use Rattle.es_fetch.specs.Permitted.{PermittedIndex, permitted_catalog}
use Rattle.es_request.specs.declared.call.Call.{Call}
use Rattle.es_request.specs.declared.request.Request.{Request}
use Rattle.es_request.specs.declared.request.Request.TheVariants.{Refused, CreateIndex, DeleteIndex, GetMapping, Put, Get, Delete, PutRole, GetRole, DeleteRole, PutUser, GetUser, DeleteUser, CreateKey, ListKeys, Invalidate, Authenticate, ClearCache}
use Rattle.es_request.specs.Requests.{is_change}
use Rattle.es_vault.specs.Decision.{Decision, no_caller, no_run_as, denied, denied_cluster, granted, decision, denial_of}
use Rattle.es_vault.specs.World.{World, Entry, PlacedWorld, placed_after}
use Rattle.es_vault.specs.Changes.{owner_of}
use Rattle.es_vault.specs.Answer.{Asked, change_in, told}
use Rattle.es_job.specs.Reads.{mapping_reply, document_reply, role_reply, user_reply, keys_reply, authentication}

-- what is told: a reply, and the entry that an accepted change adds
abbrev pub Answer : Type 0
Answer = Told ReplyValue Entry

abbrev pub refused : ReplyValue → Answer
refused reply = record { reply = reply; entry = None }

-- what is told, unless it is refused
abbrev pub told_unless : Option ReplyValue → Answer → Answer
told_unless None told = told
told_unless (Some reply) told = refused reply

-- the refusal of a request by its own text
abbrev pub static_of : Request → Option ReplyValue
static_of (Refused reply) = Some reply
static_of (CreateIndex name mapping) = None
static_of (DeleteIndex name) = None
static_of (GetMapping name) = None
static_of (Put name id document only_new) = None
static_of (Get name id) = None
static_of (Delete name id) = None
static_of (PutRole name role) = None
static_of (GetRole name) = None
static_of (DeleteRole name) = None
static_of (PutUser user) = None
static_of (GetUser name) = None
static_of (DeleteUser name) = None
static_of (CreateKey asked) = None
static_of (ListKeys owner) = None
static_of (Invalidate ids owner) = None
static_of Authenticate = None
static_of (ClearCache names every) = None

-- the refusal at a place that is behind the one that the caller has seen
abbrev pub not_reached : ℕ → ℕ → Option ReplyValue
not_reached place seen = if nat_le seen place then None else Some (place_not_reached place seen)

-- the indices as the subject may see them by the action
abbrev pub shown_to : CatalogValue → Subject → Halves → Action → map.FinMap text_cmp PermittedIndex
shown_to catalog subject halves action = permitted_catalog (permitted subject halves action) catalog

-- What a read shows the subject, with these halves, to which it is granted: of indices what the subject may see. Changes show nothing.
unfoldable pub read_in : World → Subject → Halves → Request → ReplyValue
read_in w subject halves (Refused reply) = reply
read_in w subject halves (CreateIndex name mapping) = not_built_reply
read_in w subject halves (DeleteIndex name) = not_built_reply
read_in w subject halves (GetMapping name) = mapping_reply name (map.get (shown_to w.catalog subject halves action.GetMapping) name)
read_in w subject halves (Put name id document only_new) = not_built_reply
read_in w subject halves (Get name id) = document_reply name id (map.get (shown_to w.catalog subject halves action.Get) name)
read_in w subject halves (Delete name id) = not_built_reply
read_in w subject halves (PutRole name role) = not_built_reply
read_in w subject halves (GetRole name) = role_reply name (map.get w.records.roles name)
read_in w subject halves (DeleteRole name) = not_built_reply
read_in w subject halves (PutUser user) = not_built_reply
read_in w subject halves (GetUser name) = user_reply (map.get w.records.users name)
read_in w subject halves (DeleteUser name) = not_built_reply
read_in w subject halves (CreateKey asked) = not_built_reply
read_in w subject halves (ListKeys owner) = keys_reply (keys_of w.records (owner_of owner subject))
read_in w subject halves (Invalidate ids owner) = not_built_reply
read_in w subject halves Authenticate = authentication subject
read_in w subject halves (ClearCache names every) = not_built_reply

-- what stops a call at a place: the first of its own text, a place that isn't reached, and a denial
unfoldable pub stop_in : RecordsValue → ℕ → Call → Option ReplyValue
stop_in records place call = option_or (static_of call.request) (option_or (not_reached place call.seen) (denial_of (decision records call)))

-- what a read shows whom it is granted to
abbrev pub read_for : World → Request → Decision → ReplyValue
read_for w request no_caller = not_built_reply
read_for w request (no_run_as caller target) = not_built_reply
read_for w request (denied subject action index) = not_built_reply
read_for w request (denied_cluster subject action) = not_built_reply
read_for w request (granted subject) = read_in w subject (halves_in w.records subject) request

-- what is told of a call that nothing stops
abbrev pub done_in : ℕ → PlacedWorld → Asked → Answer
done_in limit at asked =
    if is_change asked.call.request then told (change_in limit at asked)
    else refused (read_for at.world asked.call.request (decision at.world.records asked.call))

-- The answer in a world at a place, where the journal may have so many entries.
unfoldable pub answer_in : ℕ → PlacedWorld → Asked → Answer
answer_in limit at asked = told_unless (stop_in at.world.records at.place asked.call) (done_in limit at asked)

-- the answer after these entries, from the opening world
unfoldable pub answer : ℕ → World → List Entry → Asked → Answer
answer limit w J asked = answer_in limit (placed_after w J) asked

-- whether a step that changes is due after a look at a place
abbrev pub is_due : RecordsValue → ℕ → Call → Bool
is_due records place call = is_change call.request && not (is_some (stop_in records place call))

abbrev pub reply_or : Option ReplyValue → ReplyValue → ReplyValue
reply_or None other = other
reply_or (Some reply) other = reply

-- the reply of a call that changes nothing, by what a look at a place found
unfoldable pub shown_in : World → ℕ → Call → ReplyValue
shown_in w place call = reply_or (stop_in w.records place call) (read_for w call.request (decision w.records call))
