-- What a request is refused for by its own text, behind its path and its method.
use Rattle.std.specs.Prelude.{ℕ, Bool, true, false, ◌&&◌, ◌||◌, List, [], ◌∷◌, codes, bytes_eq, Option, Some, None, if◌then◌else◌}
use Rattle.std.specs.Option.{option_or}
use Rattle.std.specs.Str.{is_utf8}
use Rattle.es_wire.specs.declared.request.Once.{Once}
use Rattle.es_wire.specs.declared.request.Once.TheVariants as once
use Rattle.es_wire.specs.Framing.{decimal_of}
use Rattle.es_cred.specs.Names.{is_name, user_name, role_name}
use Rattle.es_response.specs.Reply.{ReplyValue}
use Rattle.es_reply.specs.Bodies.{bad_index_name, bad_document_id, bad_role_name, bad_user_name, reserved, bad_header}
use Rattle.es_request.specs.declared.kinds.RouteKind.{RouteKind}
use Rattle.es_request.specs.declared.kinds.RouteKind.TheVariants as kind
use Rattle.es_request.specs.Names.{is_index_name, is_document_id}
use Rattle.es_request.specs.Requests.{first_of, second_of, cut_at_commas}

-- when a change shows is fixed, so these words have no effect
abbrev pub is_refresh : List ℕ → Bool
is_refresh query =
    bytes_eq query (codes "refresh") || bytes_eq query (codes "refresh=true") || bytes_eq query (codes "refresh=false") || bytes_eq query (codes "refresh=wait_for")

-- puts and deletes of documents may have them
abbrev pub may_refresh : RouteKind → Bool
may_refresh kind.CreateIndex = false
may_refresh kind.DeleteIndex = false
may_refresh kind.GetMapping = false
may_refresh kind.PutMapping = false
may_refresh kind.PutDocument = true
may_refresh kind.CreateDocument = true
may_refresh kind.GetDocument = false
may_refresh kind.DeleteDocument = true
may_refresh kind.Search = false
may_refresh kind.PutRole = false
may_refresh kind.GetRole = false
may_refresh kind.DeleteRole = false
may_refresh kind.PutUser = false
may_refresh kind.GetUser = false
may_refresh kind.DeleteUser = false
may_refresh kind.ClearCache = false
may_refresh kind.CreateKey = false
may_refresh kind.ListKeys = false
may_refresh kind.Invalidate = false
may_refresh kind.UpdateKey = false
may_refresh kind.Authenticate = false
may_refresh kind.Bulk = false
may_refresh kind.HasPrivileges = false

abbrev pub is_empty_text : List ℕ → Bool
is_empty_text [] = true
is_empty_text (b ∷ bytes) = false

-- whether it says whose keys are meant
abbrev pub is_owner : List ℕ → Bool
is_owner query = bytes_eq query (codes "owner=true") || bytes_eq query (codes "owner=false")

-- the list of keys may have these words
abbrev pub may_own : RouteKind → Bool
may_own kind.CreateIndex = false
may_own kind.DeleteIndex = false
may_own kind.GetMapping = false
may_own kind.PutMapping = false
may_own kind.PutDocument = false
may_own kind.CreateDocument = false
may_own kind.GetDocument = false
may_own kind.DeleteDocument = false
may_own kind.Search = false
may_own kind.PutRole = false
may_own kind.GetRole = false
may_own kind.DeleteRole = false
may_own kind.PutUser = false
may_own kind.GetUser = false
may_own kind.DeleteUser = false
may_own kind.ClearCache = false
may_own kind.CreateKey = false
may_own kind.ListKeys = true
may_own kind.Invalidate = false
may_own kind.UpdateKey = false
may_own kind.Authenticate = false
may_own kind.Bulk = false
may_own kind.HasPrivileges = false

-- whether a request may have the query string
abbrev pub takes_query : RouteKind → List ℕ → Bool
takes_query k query = is_empty_text query || ((may_refresh k && is_refresh query) || (may_own k && is_owner query))

-- whether the acting user's keys alone are meant, as a text: without a query string all are
abbrev pub owner_text : List ℕ → List ℕ
owner_text query = if bytes_eq query (codes "owner=true") then codes "true" else codes "false"

-- what a request has beside its body: for the list of keys that text, else the parameters of its path
abbrev pub pieces_at : RouteKind → List ℕ → List (List ℕ) → List (List ℕ)
pieces_at k query parameters = if may_own k then owner_text query ∷ [] else parameters

-- what the parameters of a path name
pub data Naming : Type 0 where
  nothing : Naming
  an_index : Naming
  a_document : Naming
  a_role : Naming
  some_roles : Naming
  a_user : Naming

-- what the parameters name, of the requests that are built and of those that go with them
abbrev pub naming_of : RouteKind → Naming
naming_of kind.CreateIndex = an_index
naming_of kind.DeleteIndex = an_index
naming_of kind.GetMapping = an_index
naming_of kind.PutMapping = an_index
naming_of kind.PutDocument = a_document
naming_of kind.CreateDocument = a_document
naming_of kind.GetDocument = a_document
naming_of kind.DeleteDocument = a_document
naming_of kind.Search = nothing
naming_of kind.PutRole = a_role
naming_of kind.GetRole = a_role
naming_of kind.DeleteRole = a_role
naming_of kind.PutUser = a_user
naming_of kind.GetUser = a_user
naming_of kind.DeleteUser = a_user
naming_of kind.ClearCache = some_roles
naming_of kind.CreateKey = nothing
naming_of kind.ListKeys = nothing
naming_of kind.Invalidate = nothing
naming_of kind.UpdateKey = nothing
naming_of kind.Authenticate = nothing
naming_of kind.Bulk = nothing
naming_of kind.HasPrivileges = nothing

abbrev pub unless : Bool → ReplyValue → Option ReplyValue
unless holds reply = if holds then None else Some reply

-- the refusal of the first of these that isn't a name
abbrev pub bad_role_in : List (List ℕ) → Option ReplyValue
bad_role_in [] = None
bad_role_in (name ∷ names) = if is_name name then bad_role_in names else Some (bad_role_name name)

-- the refusal of the first parameter that isn't a name of its sort; roles are a star alone, or names with commas between them
abbrev pub bad_name : Naming → List (List ℕ) → Option ReplyValue
bad_name nothing pieces = None
bad_name an_index pieces = unless (is_index_name (first_of pieces)) (bad_index_name (first_of pieces))
bad_name a_document pieces =
    option_or (unless (is_index_name (first_of pieces)) (bad_index_name (first_of pieces))) (unless (is_document_id (second_of pieces)) (bad_document_id (second_of pieces)))
bad_name a_role pieces = unless (is_name (first_of pieces)) (bad_role_name (first_of pieces))
bad_name some_roles pieces = if bytes_eq (first_of pieces) (codes "*") then None else bad_role_in (cut_at_commas (first_of pieces))
bad_name a_user pieces = unless (is_name (first_of pieces)) (bad_user_name (first_of pieces))

-- the refusal of a put or a delete of the role or the user of the opening world
abbrev pub if_reserved : List ℕ → List ℕ → Option ReplyValue
if_reserved name taken = if bytes_eq name taken then Some (reserved name) else None

abbrev pub reserved_in : RouteKind → List (List ℕ) → Option ReplyValue
reserved_in kind.CreateIndex pieces = None
reserved_in kind.DeleteIndex pieces = None
reserved_in kind.GetMapping pieces = None
reserved_in kind.PutMapping pieces = None
reserved_in kind.PutDocument pieces = None
reserved_in kind.CreateDocument pieces = None
reserved_in kind.GetDocument pieces = None
reserved_in kind.DeleteDocument pieces = None
reserved_in kind.Search pieces = None
reserved_in kind.PutRole pieces = if_reserved (first_of pieces) role_name
reserved_in kind.GetRole pieces = None
reserved_in kind.DeleteRole pieces = if_reserved (first_of pieces) role_name
reserved_in kind.PutUser pieces = if_reserved (first_of pieces) user_name
reserved_in kind.GetUser pieces = None
reserved_in kind.DeleteUser pieces = if_reserved (first_of pieces) user_name
reserved_in kind.ClearCache pieces = None
reserved_in kind.CreateKey pieces = None
reserved_in kind.ListKeys pieces = None
reserved_in kind.Invalidate pieces = None
reserved_in kind.UpdateKey pieces = None
reserved_in kind.Authenticate pieces = None
reserved_in kind.Bulk pieces = None
reserved_in kind.HasPrivileges pieces = None

-- the place that the field `esec-seen` names: 1 to 18 decimal digits, 0 where it is absent, and none where it is neither
abbrev pub seen_in : Once → Option ℕ
seen_in once.Absent = Some 0
seen_in (once.One value) = decimal_of value
seen_in once.Twice = None

-- the user that the field `es-security-runas-user` names, if any; none where it is given twice or is no text
abbrev pub run_as_in : Once → Option (Option (List ℕ))
run_as_in once.Absent = Some None
run_as_in (once.One value) = if is_utf8 value then Some (Some value) else None
run_as_in once.Twice = None

abbrev pub is_said : {A : Type 0} → Option A → Bool
is_said None = false
is_said (Some x) = true

-- the refusal of the first of the two fields that says nothing that can be meant
abbrev pub bad_header_in : Once → Once → Option ReplyValue
bad_header_in seen run_as =
    option_or (unless (is_said (seen_in seen)) (bad_header (codes "esec-seen"))) (unless (is_said (run_as_in run_as)) (bad_header (codes "es-security-runas-user")))
