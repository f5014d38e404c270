-- What descriptors permit a person together: whether the action is granted, which documents, and which fields.
use Rattle.std.specs.Prelude.{◌≡◌, ℕ, List, Option, option_map, Result, Ok, Err, Bool, ◌&&◌, is_none, if◌then◌else◌}
use Rattle.std.specs.List.{list_any, filter_map}
use Rattle.es_tree.specs.declared.person.Person.{Person}
use Rattle.es_grammar.specs.Values.{has_some}
use Rattle.es_glob.specs.Patterns.{any_fits}
use Rattle.es_glob.specs.declared.field.FieldClause.{FieldClause}
use Rattle.es_glob.specs.declared.field.FieldClause.TheVariants as field_clause
use Rattle.es_priv.specs.declared.kinds.Action.{Action}
use Rattle.es_query.specs.declared.kinds.Query.{Query}
use Rattle.es_query.specs.declared.kinds.Query as query
use Rattle.es_query.specs.Queries.{query_form}
use Rattle.es_template.specs.Filling.{filled}
use Rattle.es_role.specs.declared.kinds.IndexGroup.{IndexGroup}
use Rattle.es_role.specs.declared.kinds.Descriptor.{Descriptor}
use Rattle.es_compose.specs.declared.query.RoleQuery.{RoleQuery}
use Rattle.es_compose.specs.declared.query.RoleQuery.TheVariants.{Fixed, Filled}
use Rattle.es_compose.specs.declared.kinds.Permission.{Permission}
use Rattle.es_compose.specs.declared.kinds.DocClause.{DocClause}
use Rattle.es_compose.specs.declared.kinds.DocClause.TheVariants as doc_clause
use Rattle.es_compose.specs.Roles.{counting}
use Rattle.es_compose.specs.Checked.{role_query}

-- the query that was read, and for what isn't one the query that no document meets
abbrev pub query_or_nothing : Result Query (List ℕ) → Query
query_or_nothing (Ok found) = found
query_or_nothing (Err place) = query.Nothing

-- the query for the person: a template is filled, and what it gives is read as a query
unfoldable pub filled_query : Person → RoleQuery → Query
filled_query person (Fixed found) = found
filled_query person (Filled template) = query_or_nothing (query_form (filled person template))

-- the query of a member of `indices` for the person, if it has one
abbrev pub query_for : Person → IndexGroup → Option Query
query_for person group = option_map (λ t. filled_query person (role_query t)) group.query

-- all documents where one of the members has no query, and otherwise those for which one of the queries holds
unfoldable pub documents_of : Person → List IndexGroup → DocClause
documents_of person groups = if list_any (λ group. is_none group.query) groups then doc_clause.All else doc_clause.Any (filter_map (query_for person) groups)

-- all fields where one of the members has no rule over fields, and otherwise those that one of the rules grants
unfoldable pub fields_of : List IndexGroup → FieldClause
fields_of groups = if list_any (λ group. is_none group.fields) groups then field_clause.All else field_clause.Any (filter_map (λ group. group.fields) groups)

-- what these members that count permit the person, with no second clause
abbrev pub permitted_by : Person → List IndexGroup → Permission
permitted_by person groups = record {
  granted = has_some groups;
  docs = record { first = documents_of person groups; second = doc_clause.All };
  fields = record { first = fields_of groups; second = field_clause.All };
}

-- What the descriptors permit the person for the action on the index: documents and fields are each united over the members that count.
unfoldable pub permission_of : List Descriptor → Person → Action → List ℕ → Permission
permission_of descriptors person action index = permitted_by person (counting descriptors action index)

-- a permission of one half alone, with no second clause
pub record IsAlone (permission : Permission) : Type 0 where
  pub docs : permission.docs.second ≡ doc_clause.All
  pub fields : permission.fields.second ≡ field_clause.All

-- what both permit, each of them alone
unfoldable pub limited : Permission → Permission → Permission
limited own limits = record {
  granted = own.granted && limits.granted;
  docs = record { first = own.docs.first; second = limits.docs.first };
  fields = record { first = own.fields.first; second = limits.fields.first };
}

-- whether one of the descriptors lets its holder run as the user of this name: one of its patterns fits
unfoldable pub role_runs_as : List Descriptor → List ℕ → Bool
role_runs_as descriptors name = list_any (λ (d : Descriptor). any_fits d.run_as name) descriptors
