-- What the state says of each change.
use Rattle.std.specs.Prelude.{ℕ, ◌+◌, Bool, true, false, ◌&&◌, not, is_some, List, Option, Some, None, if◌then◌else◌}
use Rattle.std.specs.FinMap as map
use Rattle.es_tree.specs.declared.tree.Tree.{Tree}
use Rattle.es_tree.specs.declared.tree.Named.{Named}
use Rattle.es_value.specs.declared.kinds.FieldType.{FieldType}
use Rattle.es_mapping.specs.Checking.{fault_in}
use Rattle.es_mapping.specs.Printed.{type_name}
use Rattle.es_role.specs.declared.kinds.Descriptor.{Descriptor}
use Rattle.es_cred.specs.declared.users.UserRecord.{UserRecord}
use Rattle.es_response.specs.Reply.{ReplyValue}
use Rattle.es_reply.specs.Bodies.{index_exists, index_created, no_such_index, acknowledged_reply, document_exists, document_refused, put_reply, document_not_found, document_deleted, role_put, user_put, gone, keys_invalidated, key_created, derived_key, not_built_reply}
use Rattle.es_records.specs.Keys.{InvalidationValue}
use Rattle.es_records.specs.declared.change.SecurityChange.TheVariants as security_change
use Rattle.es_catalog.specs.declared.index.Stored.{Stored}
use Rattle.es_catalog.specs.declared.change.DocChange.TheVariants as doc_change
use Rattle.es_catalog.specs.Catalog.{IndexValue}
use Rattle.es_catalog.specs.Changes.{version_of}
use Rattle.es_tree.specs.declared.person.Person.{Person}
use Rattle.es_edge.specs.declared.chance.Draw.{Draw}
use Rattle.es_edge.specs.declared.chance.Draw.TheVariants as draw
use Rattle.es_cred.specs.Credentials.{token_of}
use Rattle.es_keys.specs.declared.kinds.NamedPart.{NamedPart}
use Rattle.es_keys.specs.declared.kinds.NewKey.{NewKey}
use Rattle.es_keys.specs.declared.kinds.KeyRecord.{KeyRecord}
use Rattle.es_keys.specs.declared.kinds.Subject.{Subject}
use Rattle.es_keys.specs.Keys.{key_record, secret_of}
use Rattle.es_keys.specs.Halves.{acting_of}
use Rattle.es_records.specs.Records.{RecordsValue}
use Rattle.es_records.specs.Keys.{may_make, limits_for, invalidation}
use Rattle.es_request.specs.declared.request.Request.{Request}
use Rattle.es_request.specs.declared.request.Request.TheVariants.{Refused, CreateIndex, DeleteIndex, GetMapping, Put, Get, Delete, PutRole, GetRole, DeleteRole, PutUser, GetUser, DeleteUser, CreateKey, ListKeys, Invalidate, Authenticate, ClearCache}
use Rattle.es_vault.specs.World.{World, Change, security, doc}

-- What the state says of a change: it refuses it with a reply; it accepts it, and this is the reply; or it would, but nothing was drawn for it.
pub data Verdict : Type 0 where
  refuses : ReplyValue → Verdict
  accepts : ReplyValue → Change → Verdict
  undrawn : Verdict

-- the creation of an index: none of that name stands
abbrev pub creation : List ℕ → List (Named FieldType) → Option IndexValue → Verdict
creation name mapping None = accepts (index_created name) (doc (doc_change.CreateIndex name mapping))
creation name mapping (Some index) = refuses (index_exists name)

-- the deletion of an index: it stands
abbrev pub deletion : List ℕ → Option IndexValue → Verdict
deletion name None = refuses (no_such_index name)
deletion name (Some index) = accepts acknowledged_reply (doc (doc_change.DeleteIndex name))

-- the put of a document whose first value that isn't of its field's type is this
abbrev pub put_unless : List ℕ → List ℕ → Tree → Option Stored → Option (List ℕ × FieldType) → Verdict
put_unless name id document stored None = accepts (put_reply name id (version_of stored)) (doc (doc_change.Put name id document))
put_unless name id document stored (Some fault) = refuses (document_refused fault.0 (type_name fault.1))

-- the put over this document of the index, or over none: it is new where it must be, and its values are of their fields' types
abbrev pub put_over : List ℕ → List ℕ → Tree → Bool → IndexValue → Option Stored → Verdict
put_over name id document only_new index stored =
    if only_new && is_some stored then refuses (document_exists id) else put_unless name id document stored (fault_in index.mapping document)

-- the put of a document: the index stands
abbrev pub put : List ℕ → List ℕ → Tree → Bool → Option IndexValue → Verdict
put name id document only_new None = refuses (no_such_index name)
put name id document only_new (Some index) = put_over name id document only_new index (map.get index.documents id)

-- the deletion of this document of an index, or of none
abbrev pub deletion_over : List ℕ → List ℕ → Option Stored → Verdict
deletion_over name id None = refuses (document_not_found name id)
deletion_over name id (Some stored) = accepts (document_deleted name id (stored.version + 1)) (doc (doc_change.Delete name id))

-- the deletion of a document: the index stands, and the document stands
abbrev pub document_deletion : List ℕ → List ℕ → Option IndexValue → Verdict
document_deletion name id None = refuses (no_such_index name)
document_deletion name id (Some index) = deletion_over name id (map.get index.documents id)

-- the put of a role or a user, which says whether it is new
abbrev pub role_put_over : List ℕ → Descriptor → Option Descriptor → Verdict
role_put_over name descriptor old = accepts (role_put (not (is_some old))) (security (security_change.PutRole name descriptor))

abbrev pub user_put_over : UserRecord → Option UserRecord → Verdict
user_put_over user old = accepts (user_put (not (is_some old))) (security (security_change.PutUser user))

-- the deletion of a role or a user: it stands
abbrev pub role_deletion : List ℕ → Option Descriptor → Verdict
role_deletion name None = refuses (gone false)
role_deletion name (Some descriptor) = accepts (gone true) (security (security_change.DeleteRole name))

abbrev pub user_deletion : List ℕ → Option UserRecord → Verdict
user_deletion name None = refuses (gone false)
user_deletion name (Some user) = accepts (gone true) (security (security_change.DeleteUser name))

-- an invalidation is an accepted change, also where it finds nothing
abbrev pub invalidation_of : InvalidationValue → Verdict
invalidation_of found = accepts (keys_invalidated found.newly found.previously) (security (security_change.Invalidate found.newly))

-- the clearing of the cache of composed roles is an accepted change
abbrev pub clearing : List (List ℕ) → Bool → Verdict
clearing names every = accepts acknowledged_reply (security (security_change.ClearCache names every))

-- the creation of a key: its record, and the reply that shows its secret this once
abbrev pub key_accepted : KeyRecord → List ℕ → Verdict
key_accepted kept secret = accepts (key_created kept.id kept.name secret (token_of kept.id secret) kept.expires) (security (security_change.AddKey kept))

-- the creation of a key for its owner with these limits, by what was drawn for it; where nothing was asked for, which no call as it is made does, it is as where the draw failed
abbrev pub key_drawn : Person → List NamedPart → NewKey → ℕ → ℕ → Draw → Verdict
key_drawn owner limits asked number moment draw.NotDrawn = undrawn
key_drawn owner limits asked number moment draw.Failed = undrawn
key_drawn owner limits asked number moment (draw.Bytes drawn) = key_accepted (key_record owner limits asked number moment (secret_of drawn)) (secret_of drawn)

-- The creation of a key by a subject: it belongs to who acts, and its limits are the descriptors of its owner's roles as they are now. A key that acts itself makes only keys that hold no privilege.
abbrev pub key_creation : RecordsValue → Subject → NewKey → ℕ → ℕ → Draw → Verdict
key_creation records subject asked number moment draw =
    if may_make subject asked.assigned then key_drawn (acting_of subject) (limits_for records subject) asked number moment draw else refuses derived_key

-- the owner whose keys alone are meant, where the caller's own are: the one who acts, or a calling key's owner
abbrev pub owner_of : Bool → Subject → Option (List ℕ)
owner_of true subject = Some (acting_of subject).username
owner_of false subject = None

-- What the state says of a subject's request for a change, which would be the entry with this number. Changes are decided by privileges alone: they see the whole catalog. Other requests change nothing.
unfoldable pub verdict_in : World → ℕ → Subject → ℕ → Draw → Request → Verdict
verdict_in w number subject moment draw (Refused reply) = refuses not_built_reply
verdict_in w number subject moment draw (CreateIndex name mapping) = creation name mapping (map.get w.catalog name)
verdict_in w number subject moment draw (DeleteIndex name) = deletion name (map.get w.catalog name)
verdict_in w number subject moment draw (GetMapping name) = refuses not_built_reply
verdict_in w number subject moment draw (Put name id document only_new) = put name id document only_new (map.get w.catalog name)
verdict_in w number subject moment draw (Get name id) = refuses not_built_reply
verdict_in w number subject moment draw (Delete name id) = document_deletion name id (map.get w.catalog name)
verdict_in w number subject moment draw (PutRole name role) = role_put_over name role (map.get w.records.roles name)
verdict_in w number subject moment draw (GetRole name) = refuses not_built_reply
verdict_in w number subject moment draw (DeleteRole name) = role_deletion name (map.get w.records.roles name)
verdict_in w number subject moment draw (PutUser user) = user_put_over user (map.get w.records.users user.person.username)
verdict_in w number subject moment draw (GetUser name) = refuses not_built_reply
verdict_in w number subject moment draw (DeleteUser name) = user_deletion name (map.get w.records.users name)
verdict_in w number subject moment draw (CreateKey asked) = key_creation w.records subject asked number moment draw
verdict_in w number subject moment draw (ListKeys owner) = refuses not_built_reply
verdict_in w number subject moment draw (Invalidate ids owner) = invalidation_of (invalidation w.records ids (owner_of owner subject))
verdict_in w number subject moment draw Authenticate = refuses not_built_reply
verdict_in w number subject moment draw (ClearCache names every) = clearing names every
