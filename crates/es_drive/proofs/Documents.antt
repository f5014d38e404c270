-- A document that was put is the one that is got, as its caller may see it.
use Rattle.std.proofs.Common.{◌≡◌, ℕ, Bool, true, false, cond, List, [], ◌∷◌, ◌++◌, ◌+◌, length, Some, None, Option, refl, sym, ap, subst, ◌∙◌, if◌then◌else◌}
use Rattle.std.proofs.lemmas.List.{length_push}
use Rattle.std.specs.FinMap as map
use Rattle.std.specs.Option.{option_or}
use Rattle.std.proofs.lemmas.Cmp.{nat_list_cmp_total, eq_by_cmp_equiv}
use Rattle.es_tree.specs.declared.tree.Tree.{Tree}
use Rattle.es_priv.specs.declared.kinds.Action.{Action}
use Rattle.es_priv.specs.declared.kinds.Action.TheVariants as action
use Rattle.es_keys.specs.declared.kinds.Subject.{Subject}
use Rattle.es_keys.specs.Subjects.{caller_text, subject_text}
use Rattle.es_decide.specs.Decisions as decisions
use Rattle.es_decide.specs.Decisions.{permitted}
use Rattle.es_decide.proofs.Consequences.{granted_permits}
use Rattle.es_request.specs.declared.request.Request.TheVariants.{Get}
use Rattle.es_catalog.specs.declared.change.DocChange.TheVariants as doc_change
use Rattle.es_catalog.specs.Catalog.{text_cmp, IndexValue, CatalogValue}
use Rattle.es_catalog.specs.Changes.{with_document, with_doc}
use Rattle.es_compose.specs.declared.kinds.Permission.{Permission}
use Rattle.es_fetch.specs.Permitted.{permitted_index, permitted_catalog}
use Rattle.es_fetch.specs.Laws.{shown_if}
use Rattle.es_fetch.proofs.Maps.{document_seen, index_seen}
use Rattle.es_records.specs.Records.{RecordsValue, who}
use Rattle.es_records.specs.Halves.{halves_in}
use Rattle.es_request.specs.Needs.{on_index, need_of}
use Rattle.es_request.specs.Requests.{is_change}
use Rattle.es_vault.specs.World.{World, Entry, apply, doc, replay, placed_after}
use Rattle.es_vault.specs.Answer.{Asked, change_in, told}
use Rattle.es_vault.proofs.Journal.{replay-push}
use Rattle.es_vault.specs.Decision.{Decision, decision, decided_for, decided_need, name_asked, no_run_as, denied, granted, denial_of}
use Rattle.es_job.specs.Reads.{document_reply, stored_reply}
use Rattle.es_drive.specs.Laws.{DocumentGot, put_now}
use Rattle.es_job.specs.Answer.{answer, answer_in, done_in, read_in, read_for, stop_in, told_unless, static_of, not_reached, refused}

-- what stands where it was inserted
get_inserted : {X : Type 0} (m : map.FinMap text_cmp X) (name : List ℕ) (x : X) → map.get (map.insert m name x) name ≡ Some x
get_inserted m name x = map.get-insert nat_list_cmp_total m name x name ∙ ap (λ (b : Bool). cond b (Some x) (map.get m name)) ((eq_by_cmp_equiv nat_list_cmp_total).refl name)

granted_where : (b : Bool) (found subject : Subject) (text index : List ℕ) (a : Action) → (if b then granted found else denied text a index) ≡ granted subject → (b ≡ true) × (found ≡ subject)
granted_where true found subject text index a e = (refl, cc e)
granted_where false found subject text index a e = cc e

-- who is granted something may act as it asks to
runs_where : (b : Bool) (caller target : List ℕ) (later : Decision) (subject : Subject) → (if b then later else no_run_as caller target) ≡ granted subject → later ≡ granted subject
runs_where true caller target later subject e = e
runs_where false caller target later subject e = cc e

-- a subject to which an action on an index is granted has halves that grant it
roles_grant : (records : RecordsValue) (target : Option (List ℕ)) (a : Action) (index : List ℕ) (known : Option Subject) (subject : Subject) → decided_for records target (on_index a index) known ≡ granted subject
    → decisions.granted subject (halves_in records subject) a index ≡ true
roles_grant records target a index None subject e = cc e
roles_grant records target a index (Some found) subject e =
    let halves = halves_in records found in
    let runs = runs_where (decisions.runs_as found halves) (caller_text found.caller) (name_asked target) (decided_need found halves (on_index a index)) subject e in
    let parts = granted_where (decisions.granted found halves a index) found subject (subject_text found) index a runs in
    subst (λ (s : Subject). decisions.granted s (halves_in records s) a index ≡ true) parts.1 parts.0

-- and then the permission says so
get_granted : (records : RecordsValue) (asked : Asked) (name id : List ℕ) (subject : Subject) → asked.call.request ≡ Get name id → decision records asked.call ≡ granted subject
    → (permitted subject (halves_in records subject) action.Get name).granted ≡ true
unfolding decision need_of
get_granted records asked name id subject request known =
    sym (granted_permits subject (halves_in records subject) action.Get name)
    ∙ roles_grant records asked.call.run_as action.Get name (who records asked.call.credentials asked.call.run_as asked.call.moment) subject (rw request at known)

-- an index that stands and is granted is seen
seen_at : (p : List ℕ → Permission) (m : CatalogValue) (name : List ℕ) (whole : IndexValue) → map.get m name ≡ Some whole → (p name).granted ≡ true → map.get (permitted_catalog p m) name ≡ Some (permitted_index (p name) whole)
seen_at p m name whole stands granted_now = index_seen p m name ∙ rw (granted_now, stands) refl

document_in_it : (p : Permission) (index : IndexValue) (name id : List ℕ) (document : Tree) → document_reply name id (Some (permitted_index p (with_document index id document))) ≡ stored_reply name id (shown_if p (Some (put_now index id document)))
unfolding permitted_index
document_in_it p index name id document =
    ap (stored_reply name id) (document_seen p (with_document index id document).documents id ∙ ap (shown_if p) (get_inserted index.documents id (put_now index id document)))

got_in : (p : List ℕ → Permission) (m : CatalogValue) (number : ℕ) (name id : List ℕ) (document : Tree) (index : IndexValue) → map.get m name ≡ Some index → (p name).granted ≡ true
    → document_reply name id (map.get (permitted_catalog p (with_doc m number (doc_change.Put name id document))) name) ≡ stored_reply name id (shown_if (p name) (Some (put_now index id document)))
unfolding with_doc
got_in p m number name id document index stands granted_now =
    rw stands
    (ap (document_reply name id) (seen_at p (map.insert m name (with_document index id document)) name (with_document index id document) (get_inserted m name (with_document index id document)) granted_now)
    ∙ document_in_it (p name) index name id document)

-- a get that is granted at a place that its caller hasn't passed is told what is read
get_told : (limit : ℕ) (w : World) (J : List Entry) (asked : Asked) (name id : List ℕ) (subject : Subject) → asked.call.request ≡ Get name id → not_reached (length J) asked.call.seen ≡ None
    → decision (replay w J).records asked.call ≡ granted subject → answer limit w J asked ≡ refused (read_in (replay w J) subject (halves_in (replay w J).records subject) (Get name id))
unfolding answer answer_in stop_in
get_told limit w J asked name id subject request reached known =
    let d : Decision = decision (replay w J).records asked.call in
    let none : stop_in (replay w J).records (length J) asked.call ≡ None =
    ap (λ r. option_or (static_of r) (option_or (not_reached (length J) asked.call.seen) (denial_of d))) request
    ∙ ap (λ o. option_or o (denial_of d)) reached ∙ ap denial_of known in
    let reads : done_in limit (placed_after w J) asked ≡ refused (read_in (replay w J) subject (halves_in (replay w J).records subject) (Get name id)) =
    ap (λ (changes : Bool). if changes then told (change_in limit (placed_after w J) asked) else refused (read_for (replay w J) asked.call.request d)) (ap is_change request)
    ∙ ap (λ r. refused (read_for (replay w J) r d)) request ∙ ap (λ (x : Decision). refused (read_for (replay w J) (Get name id) x)) known in
    ap (λ o. told_unless o (done_in limit (placed_after w J) asked)) none ∙ reads

-- a granted get right behind an accepted put gives the document that was put, under the next version, as its caller may see it
pub document_got : DocumentGot
unfolding read_in
document_got limit w J e name id document index asked subject change stands request reached known =
    let world : replay w (J ++ e ∷ []) ≡ apply (replay w J) (length J + 1) (doc (doc_change.Put name id document)) =
    replay-push w J e ∙ ap (apply (replay w J) (length J + 1)) change in
    let granted_now : decision (replay w (J ++ e ∷ [])).records asked.call ≡ granted subject = ap (λ (v : World). decision v.records asked.call) world ∙ known in
    let place : not_reached (length (J ++ e ∷ [])) asked.call.seen ≡ None = ap (λ (n : ℕ). not_reached n asked.call.seen) (length_push J e) ∙ reached in
    get_told limit w (J ++ e ∷ []) asked name id subject request place granted_now
    ∙ ap (λ (v : World). refused (document_reply name id (map.get (permitted_catalog (permitted subject (halves_in v.records subject) action.Get) v.catalog) name))) world
    ∙ ap refused (got_in (permitted subject (halves_in (replay w J).records subject) action.Get) (replay w J).catalog (length J + 1) name id document index stands (get_granted (replay w J).records asked name id subject request known))
