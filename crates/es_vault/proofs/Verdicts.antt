-- What is accepted fits at its place.
use Rattle.std.proofs.Common.{◌≡◌, ℕ, ◌+◌, ◌≤◌, List, Bool, true, false, cond, Option, Some, None, refl, ap, subst, arith}
use Rattle.std.specs.Prelude.{⊤, IfSome, ◌&&◌, is_some}
use Rattle.std.specs.FinMap as map
use Rattle.es_edge.specs.declared.chance.Draw.{Draw}
use Rattle.es_edge.specs.declared.chance.Draw.TheVariants as draw
use Rattle.es_tree.specs.declared.person.Person.{Person}
use Rattle.es_tree.specs.declared.tree.Tree.{Tree}
use Rattle.es_tree.specs.declared.tree.Named.{Named}
use Rattle.es_value.specs.declared.kinds.FieldType.{FieldType}
use Rattle.es_mapping.specs.Checking.{fault_in}
use Rattle.es_role.specs.declared.kinds.Descriptor.{Descriptor}
use Rattle.es_cred.specs.declared.users.UserRecord.{UserRecord}
use Rattle.es_keys.specs.declared.kinds.NamedPart.{NamedPart}
use Rattle.es_keys.specs.declared.kinds.NewKey.{NewKey}
use Rattle.es_keys.specs.declared.kinds.KeyRecord.{KeyRecord}
use Rattle.es_keys.specs.declared.kinds.Subject.{Subject}
use Rattle.es_keys.specs.Keys.{key_record, secret_of, expiry_of}
use Rattle.es_keys.specs.Halves.{acting_of}
use Rattle.es_records.specs.Records.{RecordsValue}
use Rattle.es_records.specs.Keys.{may_make, limits_for}
use Rattle.es_catalog.specs.declared.index.Stored.{Stored}
use Rattle.es_catalog.specs.Catalog.{IndexValue}
use Rattle.es_request.specs.declared.request.Request.{Request}
use Rattle.es_request.specs.declared.request.Request.TheVariants.{Refused, CreateIndex, DeleteIndex, GetMapping, Put, Get, Delete, PutRole, GetRole, DeleteRole, PutUser, GetUser, DeleteUser, CreateKey, ListKeys, Invalidate, Authenticate, ClearCache}
use Rattle.es_request.specs.Requests.{IsTimely}
use Rattle.es_reply.specs.Bodies.{document_exists, derived_key}
use Rattle.es_vault.specs.World.{World, Change}
use Rattle.es_vault.specs.Changes.{Verdict, refuses, accepts, undrawn, creation, deletion, put_unless, put_over, put, deletion_over, document_deletion, role_put_over, user_put_over, role_deletion, user_deletion, key_drawn, key_creation, verdict_in}
use Rattle.es_vault.specs.Steps.{VerdictFits}
use Rattle.es_vault.specs.Replayable.{IsNew, last_moment, last_expiry}

creation_fits : (n : ℕ) (name : List ℕ) (mapping : List (Named FieldType)) (o : Option IndexValue) → VerdictFits n (creation name mapping o)
creation_fits n name mapping None = tt
creation_fits n name mapping (Some index) = tt

deletion_fits : (n : ℕ) (name : List ℕ) (o : Option IndexValue) → VerdictFits n (deletion name o)
deletion_fits n name None = tt
deletion_fits n name (Some index) = tt

unless_fits : (n : ℕ) (name id : List ℕ) (document : Tree) (stored : Option Stored) (fault : Option (List ℕ × FieldType)) → VerdictFits n (put_unless name id document stored fault)
unless_fits n name id document stored None = tt
unless_fits n name id document stored (Some fault) = tt

either_fits : (n : ℕ) (b : Bool) (one other : Verdict) → VerdictFits n one → VerdictFits n other → VerdictFits n (cond b one other)
either_fits n true one other fits fits' = fits
either_fits n false one other fits fits' = fits'

put_fits : (n : ℕ) (name id : List ℕ) (document : Tree) (only_new : Bool) (o : Option IndexValue) → VerdictFits n (put name id document only_new o)
put_fits n name id document only_new None = tt
put_fits n name id document only_new (Some index) = either_fits n (only_new && is_some (map.get index.documents id)) (refuses (document_exists id)) (put_unless name id document (map.get index.documents id) (fault_in index.mapping document)) tt (unless_fits n name id document (map.get index.documents id) (fault_in index.mapping document))

over_fits : (n : ℕ) (name id : List ℕ) (o : Option Stored) → VerdictFits n (deletion_over name id o)
over_fits n name id None = tt
over_fits n name id (Some stored) = tt

delete_fits : (n : ℕ) (name id : List ℕ) (o : Option IndexValue) → VerdictFits n (document_deletion name id o)
delete_fits n name id None = tt
delete_fits n name id (Some index) = over_fits n name id (map.get index.documents id)

role_fits : (n : ℕ) (name : List ℕ) (o : Option Descriptor) → VerdictFits n (role_deletion name o)
role_fits n name None = tt
role_fits n name (Some descriptor) = tt

user_fits : (n : ℕ) (name : List ℕ) (o : Option UserRecord) → VerdictFits n (user_deletion name o)
user_fits n name None = tt
user_fits n name (Some user) = tt

expiry_fits : (moment : ℕ) (duration : Option ℕ) → moment ≤ last_moment → IfSome duration (λ d. d ≤ 1000000000000000) → IfSome (expiry_of moment duration) (λ end. end ≤ last_expiry)
expiry_fits moment None small timely = tt
expiry_fits moment (Some d) small timely = omega (arith, small, timely)

record_fits : (n : ℕ) (owner : Person) (limits : List NamedPart) (asked : NewKey) (moment : ℕ) (secret : List ℕ) → moment ≤ last_moment → IfSome asked.expiration (λ d. d ≤ 1000000000000000)
    → IsNew n (key_record owner limits asked n moment secret)
unfolding key_record
record_fits n owner limits asked moment secret small timely = record { id = refl; good = refl; made = small; expires = expiry_fits moment asked.expiration small timely }

drawn_fits : (n : ℕ) (owner : Person) (limits : List NamedPart) (asked : NewKey) (moment : ℕ) (drawn : Draw) → moment ≤ last_moment → IfSome asked.expiration (λ d. d ≤ 1000000000000000)
    → VerdictFits n (key_drawn owner limits asked n moment drawn)
drawn_fits n owner limits asked moment draw.NotDrawn small timely = tt
drawn_fits n owner limits asked moment draw.Failed small timely = tt
drawn_fits n owner limits asked moment (draw.Bytes drawn) small timely = record_fits n owner limits asked moment (secret_of drawn) small timely

pub verdict_fits : (w : World) (n : ℕ) (subject : Subject) (moment : ℕ) (drawn : Draw) (request : Request) → moment ≤ last_moment → IsTimely request → VerdictFits n (verdict_in w n subject moment drawn request)
unfolding verdict_in
verdict_fits w n subject moment drawn (Refused reply) small timely = tt
verdict_fits w n subject moment drawn (CreateIndex name mapping) small timely = creation_fits n name mapping (map.get w.catalog name)
verdict_fits w n subject moment drawn (DeleteIndex name) small timely = deletion_fits n name (map.get w.catalog name)
verdict_fits w n subject moment drawn (GetMapping name) small timely = tt
verdict_fits w n subject moment drawn (Put name id document only_new) small timely = put_fits n name id document only_new (map.get w.catalog name)
verdict_fits w n subject moment drawn (Get name id) small timely = tt
verdict_fits w n subject moment drawn (Delete name id) small timely = delete_fits n name id (map.get w.catalog name)
verdict_fits w n subject moment drawn (PutRole name role) small timely = tt
verdict_fits w n subject moment drawn (GetRole name) small timely = tt
verdict_fits w n subject moment drawn (DeleteRole name) small timely = role_fits n name (map.get w.records.roles name)
verdict_fits w n subject moment drawn (PutUser user) small timely = tt
verdict_fits w n subject moment drawn (GetUser name) small timely = tt
verdict_fits w n subject moment drawn (DeleteUser name) small timely = user_fits n name (map.get w.records.users name)
verdict_fits w n subject moment drawn (CreateKey asked) small timely =
    either_fits n (may_make subject asked.assigned) (key_drawn (acting_of subject) (limits_for w.records subject) asked n moment drawn) (refuses derived_key) (drawn_fits n (acting_of subject) (limits_for w.records subject) asked moment drawn small timely) tt
verdict_fits w n subject moment drawn (ListKeys owner) small timely = tt
verdict_fits w n subject moment drawn (Invalidate ids owner) small timely = tt
verdict_fits w n subject moment drawn Authenticate small timely = tt
verdict_fits w n subject moment drawn (ClearCache names every) small timely = tt
