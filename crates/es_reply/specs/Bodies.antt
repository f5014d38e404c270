-- The replies, each with its status and its body in compact JSON.
use Rattle.std.specs.Prelude.{ℕ, ◌+◌, Bool, true, false, List, [], ◌∷◌, ◌++◌, map, codes, decimal, Option, Some, None}
use Rattle.json.specs.Print.{quoted}
use Rattle.es_priv.specs.declared.kinds.Action.{Action}
use Rattle.es_priv.specs.declared.kinds.ClusterAction.{ClusterAction}
use Rattle.es_priv.specs.Names.{index_name_of, cluster_name_of, action_name_of, cluster_action_name_of}
use Rattle.es_priv.specs.Table.{granting_of, granting_cluster_of}
use Rattle.es_tree.specs.declared.tree.Tree.{Tree}
use Rattle.es_tree.specs.declared.tree.Tree as tree
use Rattle.es_tree.specs.declared.person.Person.{Person}
use Rattle.es_tree.specs.Text.{text_of, with_commas}
use Rattle.es_response.specs.Reply.{ReplyValue, error_reply, error_body}

-- a status, and a tree printed
abbrev pub tree_reply : ℕ → Tree → ReplyValue
tree_reply status body = record { status = status; allow = []; body = text_of body }

-- a request that isn't built
abbrev pub not_built_reply : ReplyValue
not_built_reply = error_reply 501 (codes "not_built") (codes "not built")

-- ---- refusals of the request line and of header fields

-- a target that is no path
abbrev pub bad_path_reply : ReplyValue
bad_path_reply = error_reply 400 (codes "bad_path") (codes "the path is not readable")

-- a path, as it was sent, that no route has
abbrev pub no_route : List ℕ → ReplyValue
no_route path = error_reply 404 (codes "no_route") (codes "no route for [" ++ (path ++ codes "]"))

-- a method that the path's routes don't have, with those that they have (RFC 9110, section 15.5.6)
abbrev pub method_not_allowed : List ℕ → List ℕ → List ℕ → ReplyValue
method_not_allowed allow method path =
    record { status = 405; allow = allow; body = error_body 405 (codes "method_not_allowed") (codes "method [" ++ (method ++ (codes "] is not allowed for [" ++ (path ++ codes "]")))) }

-- a query string that the route doesn't take
abbrev pub bad_parameter : List ℕ → ReplyValue
bad_parameter text = error_reply 400 (codes "bad_parameter") (codes "bad query string [" ++ (text ++ codes "]"))

-- a header field that is given twice, or whose value isn't of its form
abbrev pub bad_header : List ℕ → ReplyValue
bad_header field = error_reply 400 (codes "bad_header") (codes "bad header [" ++ (field ++ codes "]"))

-- a place that is behind the one which the request has seen
abbrev pub place_not_reached : ℕ → ℕ → ReplyValue
place_not_reached place seen =
    error_reply 409 (codes "place_not_reached") (codes "place [" ++ (decimal place ++ (codes "] has not reached [" ++ (decimal seen ++ codes "]"))))

-- ---- refusals of the security layer

-- no credentials, or such as aren't valid
abbrev pub unauthorized : ReplyValue
unauthorized = error_reply 401 (codes "security_exception") (codes "missing or invalid credentials")

-- why a subject is denied an action on an index, with the names of the privileges that grant it
unfoldable pub index_denial : List ℕ → List ℕ → List ℕ → List ℕ → List ℕ
index_denial subject action index privileges =
    codes "action [" ++ (action ++ (codes "] on index [" ++ (index ++ (codes "] is unauthorized for " ++ (subject
    ++ (codes ", this action is granted by the index privileges [" ++ (privileges ++ codes "]")))))))

-- why a subject is denied an action on the cluster, with the names of the privileges that grant it
unfoldable pub cluster_denial : List ℕ → List ℕ → List ℕ → List ℕ
cluster_denial subject action privileges =
    codes "action [" ++ (action ++ (codes "] is unauthorized for " ++ (subject
    ++ (codes ", this action is granted by the cluster privileges [" ++ (privileges ++ codes "]")))))

-- the subject isn't granted the action on the index
abbrev pub denied : List ℕ → Action → List ℕ → ReplyValue
denied subject action index =
    error_reply 403 (codes "security_exception") (index_denial subject (action_name_of action) index (with_commas (map index_name_of (granting_of action))))

-- the subject isn't granted the action on the cluster
abbrev pub denied_cluster : List ℕ → ClusterAction → ReplyValue
denied_cluster subject action =
    error_reply 403 (codes "security_exception") (cluster_denial subject (cluster_action_name_of action) (with_commas (map cluster_name_of (granting_cluster_of action))))

-- the subject isn't permitted to run as the target
abbrev pub denied_run_as : List ℕ → List ℕ → ReplyValue
denied_run_as subject target =
    error_reply 403 (codes "security_exception") (subject ++ (codes " is not permitted to run as [" ++ (target ++ codes "]")))

-- a key that a key asks for, with privileges of its own
abbrev pub derived_key : ReplyValue
derived_key = error_reply 400 (codes "derived_key") (codes "a key made by a key may hold no privilege")

-- ---- refusals of the node

-- no random bytes were to be had
abbrev pub no_entropy : ReplyValue
no_entropy = error_reply 503 (codes "no_entropy") (codes "no random bytes")

-- the journal holds as many entries as it may
abbrev pub journal_full_entries : ℕ → ℕ → ReplyValue
journal_full_entries held limit =
    error_reply 503 (codes "journal_full") (codes "journal holds [" ++ (decimal held ++ (codes "] of [" ++ (decimal limit ++ codes "] entries"))))

-- why a change doesn't fit into the journal: the bytes that it holds, that it may hold, and that the change asks for
unfoldable pub bytes_reason : ℕ → ℕ → ℕ → List ℕ
bytes_reason held limit asks =
    codes "journal holds [" ++ (decimal held ++ (codes "] of [" ++ (decimal limit ++ (codes "] bytes, [" ++ (decimal asks ++ codes "] asked")))))

-- the journal has no room for the bytes that a change asks for
abbrev pub journal_full_bytes : ℕ → ℕ → ℕ → ReplyValue
journal_full_bytes held limit asks = error_reply 503 (codes "journal_full") (bytes_reason held limit asks)

-- ---- refusals of names and bodies

-- a text that is no name of this kind
abbrev pub bad_name : List ℕ → List ℕ → ReplyValue
bad_name kind name = error_reply 400 (codes "bad_name") (codes "bad " ++ (kind ++ (codes " [" ++ (name ++ codes "]"))))

abbrev pub bad_index_name : List ℕ → ReplyValue
bad_index_name name = bad_name (codes "index name") name

abbrev pub bad_document_id : List ℕ → ReplyValue
bad_document_id id = bad_name (codes "document id") id

abbrev pub bad_user_name : List ℕ → ReplyValue
bad_user_name name = bad_name (codes "user name") name

abbrev pub bad_role_name : List ℕ → ReplyValue
bad_role_name name = bad_name (codes "role name") name

-- a name that the node keeps for itself
abbrev pub reserved : List ℕ → ReplyValue
reserved name = error_reply 400 (codes "reserved") (codes "[" ++ (name ++ codes "] is reserved"))

-- a body that is no JSON of the kind that is read, with the reason
abbrev pub bad_json : List ℕ → ReplyValue
bad_json reason = error_reply 400 (codes "bad_json") reason

-- a body that doesn't fit its grammar, with the place of the first fault
abbrev pub bad_body : List ℕ → ReplyValue
bad_body place = error_reply 400 (codes "bad_body") (codes "bad value at [" ++ (place ++ codes "]"))

-- ---- replies on indices

-- an index of the name stands already
abbrev pub index_exists : List ℕ → ReplyValue
index_exists name = error_reply 400 (codes "resource_already_exists_exception") (codes "index [" ++ (name ++ codes "] already exists"))

-- no index of the name stands
abbrev pub no_such_index : List ℕ → ReplyValue
no_such_index name = error_reply 404 (codes "index_not_found_exception") (codes "no such index [" ++ (name ++ codes "]"))

-- the index was created
abbrev pub index_created : List ℕ → ReplyValue
index_created name = record { status = 200; allow = []; body = codes "{\"acknowledged\":true,\"index\":" ++ (quoted name ++ codes "}") }

-- a change that tells no more of itself
abbrev pub acknowledged_reply : ReplyValue
acknowledged_reply = record { status = 200; allow = []; body = codes "{\"acknowledged\":true}" }

-- an object with this one member
abbrev pub object_of : List ℕ → Tree → Tree
object_of name value = tree.Object (record { name = name; value = value } ∷ [])

-- a get of the mapping of an index, by the mapping's tree
abbrev pub mapping_shown : List ℕ → Tree → ReplyValue
mapping_shown index mapping = tree_reply 200 (object_of index (object_of (codes "mappings") mapping))

-- ---- replies on documents

-- the id and the index's name at the front of a reply on a document
unfoldable pub about : List ℕ → List ℕ → List ℕ
about name id = codes "{\"_id\":" ++ quoted id ++ codes ",\"_index\":" ++ quoted name

-- a first put
abbrev pub put_created : List ℕ → List ℕ → ReplyValue
put_created name id = record { status = 201; allow = []; body = about name id ++ codes ",\"_version\":1,\"result\":\"created\"}" }

-- a further put, by the version that it gave
abbrev pub put_updated : List ℕ → List ℕ → ℕ → ReplyValue
put_updated name id version = record { status = 200; allow = []; body = about name id ++ codes ",\"_version\":" ++ decimal version ++ codes ",\"result\":\"updated\"}" }

-- a put over none, or over a document of this version
abbrev pub put_reply : List ℕ → List ℕ → Option ℕ → ReplyValue
put_reply name id None = put_created name id
put_reply name id (Some version) = put_updated name id (version + 1)

-- the version, and 0 where there is none
abbrev pub version_of : Option ℕ → ℕ
version_of None = 0
version_of (Some version) = version

-- a get of a document that isn't there
abbrev pub absent : List ℕ → List ℕ → ReplyValue
absent name id = record { status = 404; allow = []; body = about name id ++ codes ",\"found\":false}" }

-- a get of a document, by its version and its source
abbrev pub found : List ℕ → List ℕ → ℕ → Tree → ReplyValue
found name id version source =
    record { status = 200; allow = []; body = about name id ++ codes ",\"_source\":" ++ text_of source ++ codes ",\"_version\":" ++ decimal version ++ codes ",\"found\":true}" }

-- a delete of a document, by the version that it gave
abbrev pub document_deleted : List ℕ → List ℕ → ℕ → ReplyValue
document_deleted name id version = record { status = 200; allow = []; body = about name id ++ codes ",\"_version\":" ++ decimal version ++ codes ",\"result\":\"deleted\"}" }

-- a delete of a document that isn't there
abbrev pub document_not_found : List ℕ → List ℕ → ReplyValue
document_not_found name id = record { status = 404; allow = []; body = about name id ++ codes ",\"result\":\"not_found\"}" }

-- a value of a document, by its path, that its field's type doesn't take
abbrev pub document_refused : List ℕ → List ℕ → ReplyValue
document_refused path type_name =
    error_reply 400 (codes "document_parsing_exception") (codes "failed to parse field [" ++ (path ++ (codes "] of type [" ++ (type_name ++ codes "]"))))

-- a create where a document of the id stands
abbrev pub document_exists : List ℕ → ReplyValue
document_exists id = error_reply 409 (codes "version_conflict_engine_exception") (codes "[" ++ (id ++ codes "]: version conflict, document already exists"))

-- ---- replies on roles, users and keys

-- a put of a role that is new, or stood already
abbrev pub role_put : Bool → ReplyValue
role_put true = record { status = 200; allow = []; body = codes "{\"role\":{\"created\":true}}" }
role_put false = record { status = 200; allow = []; body = codes "{\"role\":{\"created\":false}}" }

-- a put of a user that is new, or stood already
abbrev pub user_put : Bool → ReplyValue
user_put true = record { status = 200; allow = []; body = codes "{\"created\":true}" }
user_put false = record { status = 200; allow = []; body = codes "{\"created\":false}" }

-- nothing of what was asked for stands
abbrev pub nothing_shown : ReplyValue
nothing_shown = record { status = 404; allow = []; body = codes "{}" }

-- a delete of what stood, or of what didn't
abbrev pub gone : Bool → ReplyValue
gone true = record { status = 200; allow = []; body = codes "{\"found\":true}" }
gone false = record { status = 404; allow = []; body = codes "{\"found\":false}" }

-- an object of one member, by its name and the text of its value
abbrev pub member_shown : List ℕ → List ℕ → ReplyValue
member_shown name text = record { status = 200; allow = []; body = codes "{" ++ quoted name ++ codes ":" ++ text ++ codes "}" }

-- a get of a role, by its descriptor's tree
abbrev pub role_shown : List ℕ → Tree → ReplyValue
role_shown name descriptor = member_shown name (text_of descriptor)

-- a text in quotes, or null where there is none
unfoldable pub text_or_null : Option (List ℕ) → List ℕ
text_or_null None = codes "null"
text_or_null (Some text) = quoted text

-- a list of texts in quotes
unfoldable pub text_list : List (List ℕ) → List ℕ
text_list texts = codes "[" ++ with_commas (map quoted texts) ++ codes "]"

-- what is noted of a person
unfoldable pub noted_members : Person → List ℕ
noted_members person =
    codes "\"email\":" ++ text_or_null person.email
    ++ codes ",\"full_name\":" ++ text_or_null person.full_name
    ++ codes ",\"metadata\":" ++ text_of person.metadata

-- the members that tell of a person, with these roles
unfoldable pub person_members : Person → List (List ℕ) → List ℕ
person_members person roles =
    noted_members person ++ codes ",\"roles\":" ++ text_list roles ++ codes ",\"username\":" ++ quoted person.username

-- a person with its roles
abbrev pub person_text : Person → List ℕ
person_text person = codes "{" ++ person_members person person.roles ++ codes "}"

-- a get of a user
abbrev pub person_shown : Person → ReplyValue
person_shown person = member_shown person.username (person_text person)

-- who asks: a user, or a user as whom the caller acts
abbrev pub authenticated : Person → ReplyValue
authenticated person =
    record { status = 200; allow = []; body = codes "{\"authentication_type\":\"token\"," ++ person_members person person.roles ++ codes "}" }

-- who asks: a key, by its owner, its id and its name; of roles it has none
abbrev pub key_authenticated : Person → List ℕ → List ℕ → ReplyValue
key_authenticated owner id name =
    record { status = 200; allow = []; body = codes "{\"api_key\":{\"id\":" ++ quoted id ++ codes ",\"name\":" ++ quoted name ++ codes "},\"authentication_type\":\"api_key\"," ++ person_members owner [] ++ codes "}" }

-- the member that tells when a key expires, where it does
abbrev pub expiration_member : Option ℕ → List ℕ
expiration_member None = []
expiration_member (Some moment) = codes ",\"expiration\":" ++ decimal moment

-- a key that was made: its id, its name, its secret, and what a client sends of it; when it expires is in milliseconds since 1970
abbrev pub key_created : List ℕ → List ℕ → List ℕ → List ℕ → Option ℕ → ReplyValue
key_created id name secret encoded expiration =
    record { status = 200; allow = []; body = codes "{\"api_key\":" ++ quoted secret ++ codes ",\"encoded\":" ++ quoted encoded ++ expiration_member expiration ++ codes ",\"id\":" ++ quoted id ++ codes ",\"name\":" ++ quoted name ++ codes "}" }

-- keys, each by its text
abbrev pub keys_listed : List (List ℕ) → ReplyValue
keys_listed keys = record { status = 200; allow = []; body = codes "{\"api_keys\":[" ++ with_commas keys ++ codes "]}" }

-- an invalidation, by the ids of the keys that it invalidated and of those that were invalidated before
abbrev pub keys_invalidated : List (List ℕ) → List (List ℕ) → ReplyValue
keys_invalidated newly previously =
    record { status = 200; allow = []; body = codes "{\"error_count\":0,\"invalidated_api_keys\":" ++ text_list newly ++ codes ",\"previously_invalidated_api_keys\":" ++ text_list previously ++ codes "}" }
