-- What the node's answers say of one another.
use Rattle.std.specs.Prelude.{◌≡◌, ℕ, ◌+◌, Bool, true, List, [], ◌∷◌, ◌++◌, length, map as list_map, Option, Some, None}
use Rattle.std.specs.FinMap as map
use Rattle.es_tree.specs.declared.tree.Tree.{Tree}
use Rattle.es_response.specs.Reply.{ReplyValue}
use Rattle.es_wire.specs.declared.receipt.Receipt.{Receipt}
use Rattle.es_wire.specs.Requests.{Message}
use Rattle.es_session.specs.Legal.{given_of, joined}
use Rattle.es_session.specs.State.{State}
use Rattle.es_session.specs.Session.{Answers, IsAlone}
use Rattle.es_request.specs.declared.request.Request.{Request}
use Rattle.es_request.specs.declared.request.Request.TheVariants.{Refused, Get}
use Rattle.es_request.specs.Needs.{on_index, need_of}
use Rattle.es_request.specs.Requests.{is_change}
use Rattle.es_catalog.specs.declared.change.DocChange.TheVariants as doc_change
use Rattle.es_priv.specs.declared.kinds.Action.{Action}
use Rattle.es_priv.specs.declared.kinds.Action.TheVariants as action
use Rattle.es_keys.specs.declared.kinds.Subject.{Subject}
use Rattle.es_decide.specs.declared.kinds.Halves.{Halves}
use Rattle.es_decide.specs.Decisions.{permitted}
use Rattle.es_records.specs.Halves.{halves_in}
use Rattle.es_catalog.specs.declared.index.Stored.{Stored}
use Rattle.es_catalog.specs.Catalog.{IndexValue}
use Rattle.es_catalog.specs.Changes.{version_of, version_after}
use Rattle.es_fetch.specs.Laws.{shown_if}
use Rattle.es_vault.specs.Decision.{decision, denial_of, granted}
use Rattle.es_job.specs.Reads.{stored_reply}
use Rattle.es_vault.specs.World.{World, Entry, PlacedWorld, doc, replay, security_count}
use Rattle.es_vault.specs.Answer.{Asked}
use Rattle.es_job.specs.Answer.{answer, answer_in, read_in, shown_to, static_of, not_reached, refused}
use Rattle.es_drive.specs.Answer.{node}

-- a request that is refused by its own text is refused so in every world, at every place
abbrev pub StaticAnywhere : Type 0
StaticAnywhere = (limit : ℕ) (at : PlacedWorld) (asked : Asked) (reply : ReplyValue) → asked.call.request ≡ Refused reply → answer_in limit at asked ≡ refused reply

-- a denial is the same whatever indices and documents stand
abbrev pub DeniedAnywhere : Type 0
DeniedAnywhere = (limit : ℕ) (at : PlacedWorld) (asked : Asked) (reply : ReplyValue) → static_of asked.call.request ≡ None → not_reached at.place asked.call.seen ≡ None
    → denial_of (decision at.world.records asked.call) ≡ Some reply → answer_in limit at asked ≡ refused reply

-- nothing changes without a grant, and nothing but by a request for a change, at a place that its caller has not passed
abbrev pub ChangesGranted : Type 0
ChangesGranted = (limit : ℕ) (at : PlacedWorld) (asked : Asked) (e : Entry) → (answer_in limit at asked).entry ≡ Some e
    → ((subject : Subject) × (decision at.world.records asked.call ≡ granted subject)) × (is_change asked.call.request ≡ true) × (not_reached at.place asked.call.seen ≡ None)

-- a read of an index looks at nothing but what its subject may see: in two worlds of which the subject sees the same by the action, it is answered alike
abbrev pub ReadsAlike : Type 0
ReadsAlike = (w v : World) (subject : Subject) (halves : Halves) (request : Request) (a : Action) (name : List ℕ) → need_of request ≡ on_index a name
    → shown_to w.catalog subject halves a ≡ shown_to v.catalog subject halves a → read_in w subject halves request ≡ read_in v subject halves request

-- what stands of an index behind a put of the document
abbrev pub put_now : IndexValue → List ℕ → Tree → Stored
put_now index id document = record { version = version_after (version_of (map.get index.documents id)); document = document; written = index.mapping }

-- A granted get right behind an accepted put gives the document that was put, under the next version, as its caller may see it: with its granted fields, and only where it is permitted.
abbrev pub DocumentGot : Type 0
DocumentGot = (limit : ℕ) (w : World) (J : List Entry) (e : Entry) (name id : List ℕ) (document : Tree) (index : IndexValue) (asked : Asked) (subject : Subject)
    → e.change ≡ doc (doc_change.Put name id document) → map.get (replay w J).catalog name ≡ Some index
    → asked.call.request ≡ Get name id → not_reached (length J + 1) asked.call.seen ≡ None → decision (replay w J).records asked.call ≡ granted subject
    → answer limit w (J ++ e ∷ []) asked ≡ refused (stored_reply name id (shown_if (permitted subject (halves_in (replay w J).records subject) action.Get name) (Some (put_now index id document))))

-- equal counts of changes of users, roles and keys and of clearings at two places of a journal mean equal records
abbrev pub EqualCounts : Type 0
EqualCounts = (w : World) (J more : List Entry) → security_count (J ++ more) ≡ security_count J → (replay w (J ++ more)).records ≡ (replay w J).records

-- connections that are alone on like nodes, are sent the same requests and are given the same moments and draws have the same receipts, and leave the same journal
abbrev pub AnsweredAlike : Type 0
AnsweredAlike = (limit : ℕ) (w : World) (caller : ℕ) (clock clock' : Option ℕ) (closed closed' : Bool) (a b c : State Entry) (read read' : List ℕ)
    (ms : List Message) (gs hs : List (List Receipt))
    → Answers (node limit w) caller clock closed a b read ms gs → Answers (node limit w) caller clock' closed' a c read' ms hs
    → IsAlone a.journal b.journal a.receipts b.receipts → IsAlone a.journal c.journal a.receipts c.receipts
    → list_map given_of (joined gs) ≡ list_map given_of (joined hs) → (b.receipts ≡ c.receipts) × (b.journal ≡ c.journal)
