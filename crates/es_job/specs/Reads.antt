-- What a read shows: of an index as somebody may see it, so that nothing of the caller is left in it; of a role, of a user, and of who asks.
use Rattle.std.specs.Prelude.{ℕ, List, map as list_map, Option, Some, None}
use Rattle.std.specs.FinMap as map
use Rattle.es_response.specs.Reply.{ReplyValue}
use Rattle.es_reply.specs.Bodies.{no_such_index, absent, found, mapping_shown, role_shown, person_shown, nothing_shown, keys_listed, authenticated, key_authenticated}
use Rattle.es_role.specs.declared.kinds.Descriptor.{Descriptor}
use Rattle.es_role.specs.Printed.{descriptor_tree}
use Rattle.es_cred.specs.declared.users.UserRecord.{UserRecord}
use Rattle.es_keys.specs.declared.kinds.Caller.{Caller}
use Rattle.es_keys.specs.declared.kinds.Caller.TheVariants as caller
use Rattle.es_keys.specs.declared.kinds.Target.{Target}
use Rattle.es_keys.specs.declared.kinds.Target.TheVariants as target
use Rattle.es_keys.specs.declared.kinds.Subject.{Subject}
use Rattle.es_keys.specs.declared.kinds.KeyRecord.{KeyRecord}
use Rattle.es_keys.specs.Printed.{key_text}
use Rattle.es_mapping.specs.Printed.{mapping_tree}
use Rattle.es_fetch.specs.declared.shown.Shown.{Shown}
use Rattle.es_fetch.specs.Permitted.{PermittedIndex}

-- the mapping of an index, if it is seen
abbrev pub mapping_reply : List ℕ → Option PermittedIndex → ReplyValue
mapping_reply name None = no_such_index name
mapping_reply name (Some index) = mapping_shown name (mapping_tree index.mapping)

-- a document, if it is seen
abbrev pub stored_reply : List ℕ → List ℕ → Option Shown → ReplyValue
stored_reply name id None = absent name id
stored_reply name id (Some shown) = found name id shown.version shown.document

-- the document of an index, if the index is seen
abbrev pub document_reply : List ℕ → List ℕ → Option PermittedIndex → ReplyValue
document_reply name id None = no_such_index name
document_reply name id (Some index) = stored_reply name id (map.get index.documents id)

-- a role, if it stands
abbrev pub role_reply : List ℕ → Option Descriptor → ReplyValue
role_reply name None = nothing_shown
role_reply name (Some descriptor) = role_shown name (descriptor_tree descriptor)

-- a user, if it stands
abbrev pub user_reply : Option UserRecord → ReplyValue
user_reply None = nothing_shown
user_reply (Some user) = person_shown user.person

-- keys
abbrev pub keys_reply : List KeyRecord → ReplyValue
keys_reply keys = keys_listed (list_map key_text keys)

-- who acts as itself: a user, or a key with its owner as it was when the key was made
abbrev pub itself : Caller → ReplyValue
itself (caller.User user) = authenticated user.person
itself (caller.Key kept) = key_authenticated kept.owner kept.id kept.name

abbrev pub acting_as : Target → Caller → ReplyValue
acting_as target.Own c = itself c
acting_as (target.As user) c = authenticated user.person
acting_as target.Unknown c = itself c

-- who acts: the user as whom a caller runs, else the caller itself
unfoldable pub authentication : Subject → ReplyValue
authentication subject = acting_as subject.target subject.caller
