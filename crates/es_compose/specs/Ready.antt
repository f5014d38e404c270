-- Members of `indices` that were made ready, for private clauses.
use Rattle.std.specs.Prelude.{List, map, Option, option_map, is_none, if◌then◌else◌}
use Rattle.std.specs.List.{list_any, filter_map}
use Rattle.std.specs.Borrow.{Bor}
use Rattle.es_tree.specs.declared.person.Person.{Person}
use Rattle.es_glob.specs.declared.field.FieldClause.{FieldClause}
use Rattle.es_glob.specs.declared.field.FieldClause.TheVariants as field_clause
use Rattle.es_query.specs.declared.kinds.Query.{Query}
use Rattle.es_role.specs.declared.kinds.IndexGroup.{IndexGroup}
use Rattle.es_compose.specs.declared.kinds.DocClause.{DocClause}
use Rattle.es_compose.specs.declared.kinds.DocClause.TheVariants as doc_clause
use Rattle.es_compose.specs.declared.member.Member.{Member}
use Rattle.es_compose.specs.Sets.{actions_of}
use Rattle.es_compose.specs.Checked.{role_query}
use Rattle.es_compose.specs.Permissions.{filled_query}

-- the actions, the rule over fields and the query of a member of `indices`
unfoldable pub ready : IndexGroup → Member
ready group = record { actions = actions_of group.privileges; fields = group.fields; query = option_map role_query group.query }

-- members behind references
abbrev pub seen : List (Bor Member) → List Member
seen members = map (λ member. member.now) members

abbrev pub query_filled : Person → Member → Option Query
query_filled person member = option_map (filled_query person) member.query

-- the documents that these members grant the person
unfoldable pub member_documents : Person → List Member → DocClause
member_documents person members = if list_any (λ (member : Member). is_none member.query) members then doc_clause.All else doc_clause.Any (filter_map (query_filled person) members)

-- the fields that these members grant
unfoldable pub member_fields : List Member → FieldClause
member_fields members = if list_any (λ (member : Member). is_none member.fields) members then field_clause.All else field_clause.Any (filter_map (λ (member : Member). member.fields) members)
