-- What members that were made ready permit is what the members of `indices` permit.
use Rattle.std.proofs.Common.{◌≡◌, ◌<◌, ℕ, ◌+◌, List, [], ◌∷◌, ◌++◌, map, Bool, ◌||◌, ◌&&◌, Option, Some, None, option_map, is_none, filter, take, get_or, length, true, false, if◌then◌else◌, refl, sym, ap, ap₂, ◌∙◌}
use Rattle.std.specs.Borrow.{Bor}
use Rattle.std.specs.List.{cons_option, list_any, filter_map, flat_map}
use Rattle.std.proofs.lemmas.Grind.{flat_map-append}
use Rattle.std.proofs.lemmas.List.Folds.{list_any-append}
use Rattle.std.proofs.lemmas.List.{append-nil, take_more, map-append}
use Rattle.std.proofs.lemmas.List.Elements.{filter-append, filter_map-append}
use Rattle.es_tree.specs.declared.tree.Tree.{Tree}
use Rattle.es_tree.specs.declared.person.Person.{Person}
use Rattle.es_grammar.specs.Values.{has_some}
use Rattle.es_glob.specs.Patterns.{any_fits}
use Rattle.es_glob.specs.declared.field.FieldClause.{FieldClause}
use Rattle.es_glob.specs.declared.field.FieldClause.TheVariants as field_clause
use Rattle.es_priv.specs.declared.kinds.Action.{Action}
use Rattle.es_priv.specs.declared.kinds.Action.TheVariants.{Get, Search, Put, Create, Delete, CreateIndex, DeleteIndex, GetMapping, PutMapping}
use Rattle.es_priv.specs.declared.kinds.IndexPrivilege.{IndexPrivilege}
use Rattle.es_query.specs.declared.kinds.Query.{Query}
use Rattle.es_role.specs.declared.kinds.IndexGroup.{IndexGroup}
use Rattle.es_role.specs.declared.kinds.Descriptor.{Descriptor}
use Rattle.es_compose.specs.declared.kinds.Permission.{Permission}
use Rattle.es_compose.specs.declared.kinds.DocClause.{DocClause}
use Rattle.es_compose.specs.declared.kinds.DocClause.TheVariants as doc_clause
use Rattle.es_compose.specs.declared.member.Member.{Member}
use Rattle.es_compose.specs.Checked.{role_query}
use Rattle.es_compose.specs.Roles.{some_grants, counts, counting}
use Rattle.es_compose.specs.Sets.{actions_of, has_action}
use Rattle.es_compose.specs.Permissions.{filled_query, query_for, documents_of, fields_of, permission_of}
use Rattle.es_compose.specs.Ready.{ready, seen, query_filled, member_documents, member_fields}

none_read : (t : Option Tree) → is_none (option_map role_query t) ≡ is_none t
none_read None = refl
none_read (Some t) = refl

none_of_queries : (groups : List IndexGroup) → list_any (λ (m : Member). is_none m.query) (map ready groups) ≡ list_any (λ (g : IndexGroup). is_none g.query) groups
unfolding ready
none_of_queries [] = refl
none_of_queries (g ∷ groups) = ap₂ (λ a b. a || b) (none_read g.query) (none_of_queries groups)

query_read : (person : Person) (t : Option Tree) → option_map (filled_query person) (option_map role_query t) ≡ option_map (λ u. filled_query person (role_query u)) t
query_read person None = refl
query_read person (Some t) = refl

queries_read : (person : Person) (groups : List IndexGroup) → filter_map (query_filled person) (map ready groups) ≡ filter_map (query_for person) groups
unfolding ready
queries_read person [] = refl
queries_read person (g ∷ groups) = ap₂ cons_option (query_read person g.query) (queries_read person groups)

none_of_fields : (groups : List IndexGroup) → list_any (λ (m : Member). is_none m.fields) (map ready groups) ≡ list_any (λ (g : IndexGroup). is_none g.fields) groups
unfolding ready
none_of_fields [] = refl
none_of_fields (g ∷ groups) = ap (λ b. is_none g.fields || b) (none_of_fields groups)

fields_read : (groups : List IndexGroup) → filter_map (λ (m : Member). m.fields) (map ready groups) ≡ filter_map (λ (g : IndexGroup). g.fields) groups
unfolding ready
fields_read [] = refl
fields_read (g ∷ groups) = ap (cons_option g.fields) (fields_read groups)

pub ready_documents : (person : Person) (groups : List IndexGroup) → member_documents person (map ready groups) ≡ documents_of person groups
unfolding member_documents documents_of
ready_documents person groups = ap₂ (λ b (qs : List Query). if b then doc_clause.All else doc_clause.Any qs) (none_of_queries groups) (queries_read person groups)

pub ready_fields : (groups : List IndexGroup) → member_fields (map ready groups) ≡ fields_of groups
unfolding member_fields fields_of
ready_fields groups = ap₂ (λ b pairs. if b then field_clause.All else field_clause.Any pairs) (none_of_fields groups) (fields_read groups)

-- one descriptor more
pub counting_more : (descriptors : List Descriptor) (d : Descriptor) (action : Action) (index : List ℕ) → counting (descriptors ++ d ∷ []) action index ≡ counting descriptors action index ++ filter (counts action index) d.indices
counting_more descriptors d action index =
    ap (filter (counts action index)) (flat_map-append (λ (e : Descriptor). e.indices) descriptors (d ∷ []) ∙ ap (λ gs. flat_map (λ (e : Descriptor). e.indices) descriptors ++ gs) (append-nil d.indices))
    ∙ filter-append (counts action index) (flat_map (λ (e : Descriptor). e.indices) descriptors) d.indices

-- ---- one member more in a loop over members behind references

module _ (ms : List (Bor Member)) (i : ℕ) (m : Bor Member) (lt : i < length ms) (is : m ≡ get_or ms i m) where
  seen_more : seen (take (i + 1) ms) ≡ seen (take i ms) ++ m.now ∷ []
  seen_more = ap seen (take_more ms i m lt ∙ ap (λ x. take i ms ++ x ∷ []) (sym is)) ∙ map-append (λ (x : Bor Member). x.now) (take i ms) (m ∷ [])

  pub filtered_more : {C : Type 0} (h : Member → Option C) (old new : List C) → old ≡ filter_map h (seen (take i ms)) → new ≡ old ++ filter_map h (m.now ∷ []) → new ≡ filter_map h (seen (take (i + 1) ms))
  filtered_more h old new before now =
      now ∙ ap (λ l. l ++ filter_map h (m.now ∷ [])) before ∙ sym (ap (filter_map h) seen_more ∙ filter_map-append h (seen (take i ms)) (m.now ∷ []))

  or_false : (b : Bool) → (b || false) ≡ b
  or_false true = refl
  or_false false = refl

  pub any_more : (p : Member → Bool) (old : Bool) → old ≡ list_any p (seen (take i ms)) → (old || p m.now) ≡ list_any p (seen (take (i + 1) ms))
  any_more p old before =
      ap₂ (λ a b. a || b) before (sym (or_false (p m.now))) ∙ sym (ap (list_any p) seen_more ∙ list_any-append p (seen (take i ms)) (m.now ∷ []))

-- ---- counting

actions_ready : (privileges : List IndexPrivilege) (action : Action) → has_action (actions_of privileges) action ≡ some_grants action privileges
actions_ready privileges Get = refl
actions_ready privileges Search = refl
actions_ready privileges Put = refl
actions_ready privileges Create = refl
actions_ready privileges Delete = refl
actions_ready privileges CreateIndex = refl
actions_ready privileges DeleteIndex = refl
actions_ready privileges GetMapping = refl
actions_ready privileges PutMapping = refl

group_actions : (m : Member) (g : IndexGroup) → m ≡ ready g → m.actions ≡ actions_of g.privileges
unfolding ready
group_actions m g e = ap (λ (n : Member). n.actions) e

pub counts_ready : (m : Member) (g : IndexGroup) (action : Action) (index : List ℕ) → m ≡ ready g → (has_action m.actions action && any_fits g.names index) ≡ counts action index g
counts_ready m g action index e = ap (λ b. b && any_fits g.names index) (ap (λ actions. has_action actions action) (group_actions m g e) ∙ actions_ready g.privileges action)

-- ---- permissions

some_ready : (groups : List IndexGroup) → has_some (map ready groups) ≡ has_some groups
some_ready [] = refl
some_ready (g ∷ groups) = refl

abbrev alone : Bool → DocClause → FieldClause → Permission
alone granted docs fields = record {
  granted = granted;
  docs = record { first = docs; second = doc_clause.All };
  fields = record { first = fields; second = field_clause.All };
}

-- what is said of the members that count, made ready
pub permitted : (ds : List Descriptor) (person : Person) (action : Action) (index : List ℕ) (members : List Member) (granted : Bool) (docs : DocClause) (fields : FieldClause)
    → members ≡ map ready (counting ds action index) → granted ≡ has_some members → docs ≡ member_documents person members → fields ≡ member_fields members
    → record {
      granted = granted;
      docs = record { first = docs; second = doc_clause.All };
      fields = record { first = fields; second = field_clause.All };
    } ≡ permission_of ds person action index
unfolding permission_of
permitted ds person action index members granted docs fields are g d f =
    let groups = counting ds action index in
    let granted_is : granted ≡ has_some groups = g ∙ ap has_some are ∙ some_ready groups in
    let docs_are : docs ≡ documents_of person groups = d ∙ ap (member_documents person) are ∙ ready_documents person groups in
    let fields_are : fields ≡ fields_of groups = f ∙ ap member_fields are ∙ ready_fields groups in
    ap (λ b. alone b docs fields) granted_is ∙ ap (λ e. alone (has_some groups) e fields) docs_are ∙ ap (λ e. alone (has_some groups) (documents_of person groups) e) fields_are
