-- A key that is asked for lasts no longer than the longest duration.
use Rattle.std.proofs.Common.{◌≡◌, ◌≤◌, ◌*◌, ℕ, take, drop, Bool, true, false, List, [], ◌∷◌, codes, bytes_eq, nat_le, Option, Some, None, Result, Ok, Err, refl, sym, subst, IfOk}
use Rattle.std.specs.Prelude.{if◌then◌else◌}
use Rattle.std.specs.Option.{IfSome}
use Rattle.std.specs.Str.Parse.{digits_value}
use Rattle.std.proofs.lemmas.Bool.{leb-true}
use Rattle.es_base.specs.declared.memory.NoMemory.{NoMemory}
use Rattle.es_tree.specs.declared.tree.Tree.{Tree}
use Rattle.es_tree.specs.declared.tree.Named.{Named}
use Rattle.es_grammar.specs.Reading.{◌>>=◌ as ◌then◌, below, placed, wanted, or_no_members}
use Rattle.es_grammar.specs.Grammar.{◌>>=◌, member, no_more, required, means}
use Rattle.es_grammar.specs.Members.{members_of, next_of, inside, optional_of, map_form}
use Rattle.es_grammar.specs.Values.{text_form, object_form, spelled_form}
use Rattle.es_compose.specs.Checked.{checked_form}
use Rattle.es_value.specs.declared.kinds.FieldType.{FieldType}
use Rattle.es_role.specs.declared.kinds.Descriptor.{Descriptor}
use Rattle.es_cred.specs.declared.users.UserRecord.{UserRecord}
use Rattle.es_keys.specs.declared.kinds.NewKey.{NewKey}
use Rattle.es_response.specs.Reply.{ReplyValue}
use Rattle.es_request.specs.declared.keys.Asked.{Asked}
use Rattle.es_request.specs.declared.kinds.RouteKind.{RouteKind}
use Rattle.es_request.specs.declared.kinds.RouteKind.TheVariants as kind
use Rattle.es_request.specs.declared.request.Request.{Request}
use Rattle.es_request.specs.Bodies.{or_bad_body, tree_of_body, of_tree, body_of, mapping_of_creation, document_of, descriptor_of, user_of}
use Rattle.es_request.specs.Keys.{longest, is_number, if_not_longer, duration_of, duration_in, digits_in, unit_of, is_key_name, name_in, parts_in, new_key_form, new_key_of, invalidate_of}
use Rattle.es_request.specs.Requests.{first_of, second_of, created_with, put_of, role_of, user_with, key_with, invalidation_with, clearing_of, request_of, IsTimely}

abbrev Lasts : Option ℕ → Type 0
Lasts duration = IfSome duration (λ d. d ≤ longest)

-- what is read has the property
abbrev Each : {A E : Type 0} → (A → Type 0) → Result A E → Type 0
Each P (Ok x) = P x
Each P (Err e) = Unit {0}

-- ---- durations

no_longer : (n : ℕ) (b : Bool) → nat_le n longest ≡ b → Lasts (if b then Some n else None)
no_longer n true e = leb-true n longest e
no_longer n false e = tt

if_number : (b : Bool) (n : ℕ) → Lasts (if b then if_not_longer n else None)
if_number true n = no_longer n (nat_le n longest) refl
if_number false n = tt

lasting : (digits : List ℕ) (unit : Option ℕ) → Lasts (duration_of digits unit)
lasting digits None = tt
lasting digits (Some unit) = if_number (is_number digits) (digits_value 10 digits * unit)

pub duration_lasts : (text : List ℕ) → Lasts (duration_in text)
unfolding duration_in
duration_lasts text = lasting (take (digits_in text) text) (unit_of (drop (digits_in text) text))

-- ---- readings

each_then : {A B : Type 0} (P : B → Type 0) (r : Result A (List ℕ)) (f : A → Result B (List ℕ)) → ((x : A) → Each P (f x)) → Each P (r then f)
each_then P (Ok x) f h = h x
each_then P (Err place) f h = tt

each_with : {A B : Type 0} (Q : A → Type 0) (P : B → Type 0) (r : Result A (List ℕ)) (f : A → Result B (List ℕ)) → Each Q r → ((x : A) → Q x → Each P (f x)) → Each P (r then f)
each_with Q P (Ok x) f q h = h x q
each_with Q P (Err place) f q h = tt

each_below : {A : Type 0} (P : A → Type 0) (name : List ℕ) (r : Result A (List ℕ)) → Each P r → Each P (below name r)
each_below P name (Ok x) h = h
each_below P name (Err place) h = tt

each_placed : {A : Type 0} (P : A → Type 0) (place : List ℕ) (r : Result A (List ℕ)) → Each P r → Each P (placed place r)
each_placed P place (Ok x) h = h
each_placed P place (Err inside_) h = tt

each_wanted : (o : Option ℕ) → Lasts o → Each (λ d. d ≤ longest) (wanted o)
each_wanted None h = tt
each_wanted (Some d) h = h

spelled_lasts : (t : Tree) → Each (λ d. d ≤ longest) (spelled_form duration_in t)
spelled_lasts t = each_then (λ d. d ≤ longest) (text_form t) (λ s. wanted (duration_in s)) (λ s. each_wanted (duration_in s) (duration_lasts s))

inside_lasts : (name : List ℕ) (o : Option Tree) → Each Lasts (inside name (spelled_form duration_in) o)
inside_lasts name None = tt
inside_lasts name (Some t) =
    each_with (λ d. d ≤ longest) Lasts (below name (spelled_form duration_in t)) (λ x. Ok (Some x)) (each_below (λ d. d ≤ longest) name (spelled_form duration_in t) (spelled_lasts t)) (λ x h. h)

abbrev Left : Type 0
Left = List (Named Tree)

member_lasts : (name : List ℕ) (ms : Left) → Each (λ (x : Option ℕ × Left). Lasts x.0) (optional_of name (spelled_form duration_in) ms)
member_lasts name ms =
    each_then (λ (x : Option ℕ × Left). Lasts x.0) (next_of name ms) (λ found. inside name (spelled_form duration_in) found.0 then λ value. Ok (value, found.1))
    (λ found. each_with Lasts (λ (x : Option ℕ × Left). Lasts x.0) (inside name (spelled_form duration_in) found.0) (λ value. Ok (value, found.1)) (inside_lasts name found.0) (λ value h. h))

abbrev KeyLasts : NewKey → Type 0
KeyLasts asked = Lasts asked.expiration

abbrev ReadLasts : NewKey × Left → Type 0
ReadLasts x = Lasts x.0.expiration

abbrev Rest : Type 0
Rest = Left → Result (NewKey × Left) (List ℕ)

-- what is left to read behind each part
abbrev behind_called : Option ℕ → Option Tree → Option (List (Named Descriptor)) → List ℕ → Rest
behind_called expiration metadata descriptors called = means (record { name = called; expiration = expiration; assigned = parts_in descriptors; metadata = or_no_members metadata })

abbrev behind_end : Option ℕ → Option Tree → Option (List ℕ) → Option (List (Named Descriptor)) → Unit {0} → Rest
behind_end expiration metadata name descriptors end = required name >>= behind_called expiration metadata descriptors

abbrev behind_descriptors : Option ℕ → Option Tree → Option (List ℕ) → Option (List (Named Descriptor)) → Rest
behind_descriptors expiration metadata name descriptors = no_more >>= behind_end expiration metadata name descriptors

abbrev behind_name : Option ℕ → Option Tree → Option (List ℕ) → Rest
behind_name expiration metadata name = member (codes "role_descriptors") (map_form is_key_name checked_form) >>= behind_descriptors expiration metadata name

abbrev behind_metadata : Option ℕ → Option Tree → Rest
behind_metadata expiration metadata = member (codes "name") (spelled_form name_in) >>= behind_name expiration metadata

abbrev behind_expiration : Option ℕ → Rest
behind_expiration expiration = member (codes "metadata") object_form >>= behind_metadata expiration

abbrev grammar : Rest
grammar = member (codes "expiration") (spelled_form duration_in) >>= behind_expiration

rest_then : {A : Type 0} (part : Left → Result (A × Left) (List ℕ)) (f : A → Rest) → ((x : A) (ms : Left) → Each ReadLasts (f x ms)) → (ms : Left) → Each ReadLasts ((part >>= f) ms)
rest_then part f h ms = each_then ReadLasts (part ms) (λ x. f x.0 x.1) (λ x. h x.0 x.1)

rest_lasts : (expiration : Option ℕ) → Lasts expiration → (ms : Left) → Each ReadLasts (behind_expiration expiration ms)
rest_lasts expiration h =
    rest_then (member (codes "metadata") object_form) (behind_metadata expiration) (λ metadata.
    rest_then (member (codes "name") (spelled_form name_in)) (behind_name expiration metadata) (λ name.
    rest_then (member (codes "role_descriptors") (map_form is_key_name checked_form)) (behind_descriptors expiration metadata name) (λ descriptors.
    rest_then no_more (behind_end expiration metadata name descriptors) (λ end.
    rest_then (required name) (behind_called expiration metadata descriptors) (λ called ms. h)))))

grammar_lasts : (ms : Left) → Each ReadLasts (grammar ms)
grammar_lasts ms =
    each_with (λ (x : Option ℕ × Left). Lasts x.0) ReadLasts (optional_of (codes "expiration") (spelled_form duration_in) ms) (λ x. behind_expiration x.0 x.1)
    (member_lasts (codes "expiration") ms) (λ x h. rest_lasts x.0 h x.1)

form_lasts : (t : Tree) → Each KeyLasts (new_key_form t)
unfolding new_key_form
form_lasts t =
    each_then KeyLasts (members_of t) (λ ms. grammar ms then λ x. Ok x.0) (λ ms.
    each_with ReadLasts KeyLasts (grammar ms) (λ x. Ok x.0) (grammar_lasts ms) (λ x h. h))

-- ---- bodies

each_or_bad : {A : Type 0} (P : A → Type 0) (r : Result A (List ℕ)) → Each P r → Each P (or_bad_body r)
each_or_bad P (Ok x) h = h
each_or_bad P (Err place) h = tt

each_of_tree : (r : Result Tree ReplyValue) → Each KeyLasts (of_tree new_key_form r)
each_of_tree (Ok t) = each_or_bad KeyLasts (placed [] (new_key_form t)) (each_placed KeyLasts [] (new_key_form t) (form_lasts t))
each_of_tree (Err reply) = tt

body_lasts : (body : List ℕ) → Each KeyLasts (new_key_of body)
unfolding body_of
body_lasts body = each_of_tree (tree_of_body body)

-- ---- requests

key_timely : (r : Result NewKey ReplyValue) → Each KeyLasts r → IsTimely (key_with r)
key_timely (Ok asked) h = h
key_timely (Err reply) h = tt

created_timely : (name : List ℕ) (r : Result (List (Named FieldType)) ReplyValue) → IsTimely (created_with name r)
created_timely name (Ok mapping) = tt
created_timely name (Err reply) = tt

put_timely : (name id : List ℕ) (only_new : Bool) (r : Result Tree ReplyValue) → IsTimely (put_of name id only_new r)
put_timely name id only_new (Ok document) = tt
put_timely name id only_new (Err reply) = tt

role_timely : (name : List ℕ) (r : Result Descriptor ReplyValue) → IsTimely (role_of name r)
role_timely name (Ok descriptor) = tt
role_timely name (Err reply) = tt

user_timely : (r : Result UserRecord ReplyValue) → IsTimely (user_with r)
user_timely (Ok user) = tt
user_timely (Err reply) = tt

invalidation_timely : (r : Result Asked ReplyValue) → IsTimely (invalidation_with r)
invalidation_timely (Ok asked) = tt
invalidation_timely (Err reply) = tt

one_timely : (b : Bool) (first second : Request) → IsTimely first → IsTimely second → IsTimely (if b then first else second)
one_timely true first second h g = h
one_timely false first second h g = g

pub request_timely : (k : RouteKind) (pieces : List (List ℕ)) (body : List ℕ) → IsTimely (request_of k pieces body)
unfolding request_of
request_timely kind.CreateIndex pieces body = created_timely (first_of pieces) (mapping_of_creation body)
request_timely kind.DeleteIndex pieces body = tt
request_timely kind.GetMapping pieces body = tt
request_timely kind.PutMapping pieces body = tt
request_timely kind.PutDocument pieces body = put_timely (first_of pieces) (second_of pieces) false (document_of body)
request_timely kind.CreateDocument pieces body = put_timely (first_of pieces) (second_of pieces) true (document_of body)
request_timely kind.GetDocument pieces body = tt
request_timely kind.DeleteDocument pieces body = tt
request_timely kind.Search pieces body = tt
request_timely kind.PutRole pieces body = role_timely (first_of pieces) (descriptor_of body)
request_timely kind.GetRole pieces body = tt
request_timely kind.DeleteRole pieces body = tt
request_timely kind.PutUser pieces body = user_timely (user_of (first_of pieces) body)
request_timely kind.GetUser pieces body = tt
request_timely kind.DeleteUser pieces body = tt
request_timely kind.ClearCache pieces body = one_timely (bytes_eq (first_of pieces) (codes "*")) _ _ tt tt
request_timely kind.CreateKey pieces body = key_timely (new_key_of body) (body_lasts body)
request_timely kind.ListKeys pieces body = tt
request_timely kind.Invalidate pieces body = invalidation_timely (invalidate_of body)
request_timely kind.UpdateKey pieces body = tt
request_timely kind.Authenticate pieces body = tt
request_timely kind.Bulk pieces body = tt
request_timely kind.HasPrivileges pieces body = tt

pub timely_if_read : (r : Result Request NoMemory) (k : RouteKind) (pieces : List (List ℕ)) (body : List ℕ) → IfOk r (λ request. request ≡ request_of k pieces body) → IfOk r IsTimely
timely_if_read (Ok request) k pieces body e = subst IsTimely (sym e) (request_timely k pieces body)
timely_if_read (Err refused) k pieces body e = tt
