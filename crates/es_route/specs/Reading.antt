-- What a request of the wire asks, or the first refusal: of its path, its route, its method, that it isn't built, its query string, a name, a
-- reserved name, a field, its body.
use Rattle.std.specs.Prelude.{ℕ, ◌+◌, List, length, Option, Some, None, Result, Ok, Err, if◌then◌else◌}
use Rattle.std.specs.Option.{unwrap_or}
use Rattle.es_edge.specs.declared.chance.Draw.{Draw}
use Rattle.es_wire.specs.declared.request.RawRequest.{RawRequest}
use Rattle.es_wire.specs.declared.request.Once.{Once}
use Rattle.es_wire.specs.declared.request.Once.TheVariants as once
use Rattle.es_cred.specs.declared.credentials.Credentials.{Credentials}
use Rattle.es_cred.specs.declared.credentials.Credentials.TheVariants as credentials
use Rattle.es_cred.specs.Credentials.{credentials_of}
use Rattle.es_response.specs.Reply.{ReplyValue}
use Rattle.es_reply.specs.Bodies.{no_route, method_not_allowed, not_built_reply, bad_parameter}
use Rattle.es_request.specs.declared.kinds.RouteKind.{RouteKind}
use Rattle.es_request.specs.declared.request.Request.{Request}
use Rattle.es_request.specs.declared.request.Request.TheVariants.{Refused}
use Rattle.es_request.specs.declared.call.Call.{Call}
use Rattle.es_request.specs.Requests.{is_built, request_of}
use Rattle.es_route.specs.Targets.{target_of, segments_of, decoded}
use Rattle.es_route.specs.Rows.{Row, row_of, parameters_in, kind_in, allow_of}
use Rattle.es_route.specs.Refusals.{takes_query, pieces_at, naming_of, bad_name, reserved_in, bad_header_in, seen_in, run_as_in}

infixl 10 ◌then◌
abbrev pub ◌then◌ : {A B : Type 0} → Result A ReplyValue → (A → Result B ReplyValue) → Result B ReplyValue
(Ok x) then f = f x
(Err reply) then f = Err reply

-- what is there, or the reply where nothing is
abbrev pub or_reply : {A : Type 0} → Option A → ReplyValue → Result A ReplyValue
or_reply (Some x) reply = Ok x
or_reply None reply = Err reply

-- the reply, if there is one
abbrev pub unless_refused : Option ReplyValue → Result (Unit {0}) ReplyValue
unless_refused None = Ok tt
unless_refused (Some reply) = Err reply

-- what is asked of a path, and its parameters, or what its query string says
pub record Asked : Type 0 where
  pub kind : RouteKind
  pub pieces : List (List ℕ)

-- the path's row and its parameters, decoded
abbrev pub found_at : List ℕ → Result (Row × List (List ℕ)) ReplyValue
found_at path =
    or_reply (row_of (segments_of path)) (no_route path) then λ row.
    decoded (parameters_in row.pieces (segments_of path)) then λ pieces. Ok (row, pieces)

-- what is asked by the method
abbrev pub kind_at : Row → List ℕ → List ℕ → Result RouteKind ReplyValue
kind_at row method path = or_reply (kind_in row.methods method) (method_not_allowed (allow_of row.methods) method path)

-- what the target and the method ask
unfoldable pub asked_at : List ℕ → List ℕ → Result Asked ReplyValue
asked_at method bytes =
    target_of bytes then λ target.
    found_at target.path then λ found.
    kind_at found.0 method target.path then λ kind.
    (if is_built kind then Ok (tt {0}) else Err not_built_reply) then λ built.
    (if takes_query kind target.query then Ok (tt {0}) else Err (bad_parameter target.query)) then λ taken.
    Ok (record { kind = kind; pieces = pieces_at kind target.query found.1 })

-- what a request asks, and the first refusal but those of its body
unfoldable pub asked_of : RawRequest → Result Asked ReplyValue
asked_of raw =
    asked_at raw.method raw.target then λ asked.
    unless_refused (bad_name (naming_of asked.kind) asked.pieces) then λ named.
    unless_refused (reserved_in asked.kind asked.pieces) then λ free.
    unless_refused (bad_header_in raw.seen raw.run_as) then λ said.
    Ok asked

-- what it asks with its body
abbrev pub with_body : Result Asked ReplyValue → List ℕ → Request
with_body (Ok asked) body = request_of asked.kind asked.pieces body
with_body (Err reply) body = Refused reply

-- what a request of the wire asks
unfoldable pub read_request : RawRequest → Request
read_request raw = with_body (asked_of raw) raw.body

-- a repeated field is malformed
abbrev pub credentials_at : Once → Credentials
credentials_at once.Absent = credentials_of None
credentials_at (once.One field) = credentials_of (Some field)
credentials_at once.Twice = credentials.Malformed

-- a change weighs its body and 512 bytes more
abbrev pub weight_of : RawRequest → ℕ
weight_of raw = length raw.body + 512

-- The call that a request of the wire is, at its moment and with what was drawn for it. What a bad field would have named is left out.
unfoldable pub call_of : RawRequest → ℕ → Draw → Call
call_of raw moment draw = record {
  request = read_request raw;
  credentials = credentials_at raw.authorization;
  run_as = unwrap_or (run_as_in raw.run_as) None;
  seen = unwrap_or (seen_in raw.seen) 0;
  moment = moment;
  draw = draw;
  weight = weight_of raw;
}
