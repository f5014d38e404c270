-- What a request of a route asks, by its parameters and its body.
use Rattle.std.specs.Prelude.{ℕ, ◌≤◌, Bool, true, false, ◌==◌, List, [], ◌∷◌, codes, bytes_eq, Result, Ok, Err, if◌then◌else◌}
use Rattle.std.specs.List.{slice_split}
use Rattle.std.specs.Option.{IfSome}
use Rattle.es_tree.specs.declared.tree.Tree.{Tree}
use Rattle.es_tree.specs.declared.tree.Named.{Named}
use Rattle.es_value.specs.declared.kinds.FieldType.{FieldType}
use Rattle.es_role.specs.declared.kinds.Descriptor.{Descriptor}
use Rattle.es_cred.specs.declared.users.UserRecord.{UserRecord}
use Rattle.es_keys.specs.declared.kinds.NewKey.{NewKey}
use Rattle.es_response.specs.Reply.{ReplyValue}
use Rattle.es_reply.specs.Bodies.{not_built_reply}
use Rattle.es_request.specs.declared.kinds.RouteKind.{RouteKind}
use Rattle.es_request.specs.declared.kinds.RouteKind.TheVariants as kind
use Rattle.es_request.specs.declared.request.Request.{Request}
use Rattle.es_request.specs.declared.request.Request.TheVariants.{Refused, CreateIndex, DeleteIndex, GetMapping, Put, Get, Delete, PutRole, GetRole, DeleteRole, PutUser, GetUser, DeleteUser, CreateKey, ListKeys, Invalidate, Authenticate, ClearCache}
use Rattle.es_request.specs.Bodies.{mapping_of_creation, document_of, descriptor_of, user_of}
use Rattle.es_request.specs.declared.keys.Asked.{Asked}
use Rattle.es_request.specs.Keys.{longest, new_key_of, invalidate_of}

-- the first and the second of a path's parameters, and an empty text where there is none
abbrev pub first_of : List (List ℕ) → List ℕ
first_of [] = []
first_of (piece ∷ pieces) = piece

abbrev pub second_of : List (List ℕ) → List ℕ
second_of [] = []
second_of (piece ∷ pieces) = first_of pieces

-- what is asked, or that its body is refused
abbrev pub created_with : List ℕ → Result (List (Named FieldType)) ReplyValue → Request
created_with name (Ok mapping) = CreateIndex name mapping
created_with name (Err reply) = Refused reply

abbrev pub put_of : List ℕ → List ℕ → Bool → Result Tree ReplyValue → Request
put_of name id only_new (Ok document) = Put name id document only_new
put_of name id only_new (Err reply) = Refused reply

abbrev pub role_of : List ℕ → Result Descriptor ReplyValue → Request
role_of name (Ok descriptor) = PutRole name descriptor
role_of name (Err reply) = Refused reply

abbrev pub user_with : Result UserRecord ReplyValue → Request
user_with (Ok user) = PutUser user
user_with (Err reply) = Refused reply

abbrev pub key_with : Result NewKey ReplyValue → Request
key_with (Ok asked) = CreateKey asked
key_with (Err reply) = Refused reply

abbrev pub invalidation_with : Result Asked ReplyValue → Request
invalidation_with (Ok asked) = Invalidate asked.ids asked.owner
invalidation_with (Err reply) = Refused reply

-- the pieces of a text between its commas
abbrev pub cut_at_commas : List ℕ → List (List ℕ)
cut_at_commas text = slice_split (λ b. b == 44) text

-- the clearing of the cache of composed roles: of every user's where the parameter is a star alone, else of the names between its commas
abbrev pub clearing_of : List ℕ → Request
clearing_of text = if bytes_eq text (codes "*") then ClearCache [] true else ClearCache (cut_at_commas text) false

-- Which requests are built; all others are refused as not built.
abbrev pub is_built : RouteKind → Bool
is_built kind.CreateIndex = true
is_built kind.DeleteIndex = true
is_built kind.GetMapping = true
is_built kind.PutMapping = false
is_built kind.PutDocument = true
is_built kind.CreateDocument = true
is_built kind.GetDocument = true
is_built kind.DeleteDocument = true
is_built kind.Search = false
is_built kind.PutRole = true
is_built kind.GetRole = true
is_built kind.DeleteRole = true
is_built kind.PutUser = true
is_built kind.GetUser = true
is_built kind.DeleteUser = true
is_built kind.ClearCache = true
is_built kind.CreateKey = true
is_built kind.ListKeys = true
is_built kind.Invalidate = true
is_built kind.UpdateKey = false
is_built kind.Authenticate = true
is_built kind.Bulk = false
is_built kind.HasPrivileges = false

-- What a request asks whose path's parameters are these. A body on a route without one is ignored.
unfoldable pub request_of : RouteKind → List (List ℕ) → List ℕ → Request
request_of kind.CreateIndex pieces body = created_with (first_of pieces) (mapping_of_creation body)
request_of kind.DeleteIndex pieces body = DeleteIndex (first_of pieces)
request_of kind.GetMapping pieces body = GetMapping (first_of pieces)
request_of kind.PutMapping pieces body = Refused not_built_reply
request_of kind.PutDocument pieces body = put_of (first_of pieces) (second_of pieces) false (document_of body)
request_of kind.CreateDocument pieces body = put_of (first_of pieces) (second_of pieces) true (document_of body)
request_of kind.GetDocument pieces body = Get (first_of pieces) (second_of pieces)
request_of kind.DeleteDocument pieces body = Delete (first_of pieces) (second_of pieces)
request_of kind.Search pieces body = Refused not_built_reply
request_of kind.PutRole pieces body = role_of (first_of pieces) (descriptor_of body)
request_of kind.GetRole pieces body = GetRole (first_of pieces)
request_of kind.DeleteRole pieces body = DeleteRole (first_of pieces)
request_of kind.PutUser pieces body = user_with (user_of (first_of pieces) body)
request_of kind.GetUser pieces body = GetUser (first_of pieces)
request_of kind.DeleteUser pieces body = DeleteUser (first_of pieces)
request_of kind.ClearCache pieces body = clearing_of (first_of pieces)
request_of kind.CreateKey pieces body = key_with (new_key_of body)
request_of kind.ListKeys pieces body = ListKeys (bytes_eq (first_of pieces) (codes "true"))
request_of kind.Invalidate pieces body = invalidation_with (invalidate_of body)
request_of kind.UpdateKey pieces body = Refused not_built_reply
request_of kind.Authenticate pieces body = Authenticate
request_of kind.Bulk pieces body = Refused not_built_reply
request_of kind.HasPrivileges pieces body = Refused not_built_reply

-- whether the request changes something where it is accepted
abbrev pub is_change : Request → Bool
is_change (Refused reply) = false
is_change (CreateIndex name mapping) = true
is_change (DeleteIndex name) = true
is_change (GetMapping name) = false
is_change (Put name id document only_new) = true
is_change (Get name id) = false
is_change (Delete name id) = true
is_change (PutRole name role) = true
is_change (GetRole name) = false
is_change (DeleteRole name) = true
is_change (PutUser user) = true
is_change (GetUser name) = false
is_change (DeleteUser name) = true
is_change (CreateKey asked) = true
is_change (ListKeys owner) = false
is_change (Invalidate ids owner) = true
is_change Authenticate = false
is_change (ClearCache names every) = true

-- whether it draws from the chance: the creation of a key alone does
abbrev pub draws : Request → Bool
draws (Refused reply) = false
draws (CreateIndex name mapping) = false
draws (DeleteIndex name) = false
draws (GetMapping name) = false
draws (Put name id document only_new) = false
draws (Get name id) = false
draws (Delete name id) = false
draws (PutRole name role) = false
draws (GetRole name) = false
draws (DeleteRole name) = false
draws (PutUser user) = false
draws (GetUser name) = false
draws (DeleteUser name) = false
draws (CreateKey asked) = true
draws (ListKeys owner) = false
draws (Invalidate ids owner) = false
draws Authenticate = false
draws (ClearCache names every) = false

-- a key that is asked for lasts no longer than the longest duration
abbrev pub IsTimely : Request → Type 0
IsTimely (Refused reply) = Unit {0}
IsTimely (CreateIndex name mapping) = Unit {0}
IsTimely (DeleteIndex name) = Unit {0}
IsTimely (GetMapping name) = Unit {0}
IsTimely (Put name id document only_new) = Unit {0}
IsTimely (Get name id) = Unit {0}
IsTimely (Delete name id) = Unit {0}
IsTimely (PutRole name role) = Unit {0}
IsTimely (GetRole name) = Unit {0}
IsTimely (DeleteRole name) = Unit {0}
IsTimely (PutUser user) = Unit {0}
IsTimely (GetUser name) = Unit {0}
IsTimely (DeleteUser name) = Unit {0}
IsTimely (CreateKey asked) = IfSome asked.expiration (λ duration. duration ≤ longest)
IsTimely (ListKeys owner) = Unit {0}
IsTimely (Invalidate ids owner) = Unit {0}
IsTimely Authenticate = Unit {0}
IsTimely (ClearCache names every) = Unit {0}
