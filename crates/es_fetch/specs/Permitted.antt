-- What somebody may see of the indices: a catalog of its own, to which no rule is left to apply.
use Rattle.std.specs.Prelude.{ℕ, List, Option, Some, None, Bool, true, false, ◌&&◌}
use Rattle.std.specs.FinMap as map
use Rattle.std.specs.List.{list_any}
use Rattle.es_tree.specs.declared.tree.Named.{Named}
use Rattle.es_glob.specs.declared.field.FieldRule.{FieldRule}
use Rattle.es_value.specs.declared.kinds.FieldType.{FieldType}
use Rattle.es_fields.specs.Projection.{project_of, projected_mapping}
use Rattle.es_match.specs.Holds.{query_holds}
use Rattle.es_catalog.specs.declared.index.Stored.{Stored}
use Rattle.es_catalog.specs.Catalog.{text_cmp, IndexValue, CatalogValue}
use Rattle.es_compose.specs.declared.kinds.Permission.{Permission}
use Rattle.es_compose.specs.declared.kinds.DocRule.{DocRule}
use Rattle.es_compose.specs.declared.kinds.DocClause.{DocClause}
use Rattle.es_compose.specs.declared.kinds.DocClause.TheVariants.{All, Any}
use Rattle.es_fetch.specs.declared.shown.Shown.{Shown}
use Rattle.es_fetch.specs.Mapped.{mapped}

-- whether the clause permits every document, or one of its queries holds on this one, whole, under the mapping that it was written with
abbrev pub clause_permits : DocClause → Stored → Bool
clause_permits All stored = true
clause_permits (Any queries) stored = list_any (query_holds stored.written stored.document) queries

-- whether both clauses permit the document
unfoldable pub permits : DocRule → Stored → Bool
permits rule stored = clause_permits rule.first stored && clause_permits rule.second stored

-- what is shown of a document: its version, and its granted fields
unfoldable pub shown : FieldRule → Stored → Shown
shown rule stored = record { version = stored.version; document = project_of rule stored.document }

-- whether a document stands and is permitted
abbrev pub is_permitted : DocRule → Option Stored → Bool
is_permitted rule None = false
is_permitted rule (Some stored) = permits rule stored

-- an index as somebody may see it
pub record PermittedIndex : Type 0 where
  pub mapping : List (Named FieldType)
  pub documents : map.FinMap text_cmp Shown

-- the permitted documents of these, each as it is shown
unfoldable pub permitted_documents : Permission → map.FinMap text_cmp Stored → map.FinMap text_cmp Shown
permitted_documents permission documents =
    mapped (λ id stored. shown permission.fields stored) (map.retain_keys documents (λ id. is_permitted permission.docs (map.get documents id)))

-- the index with the granted fields of its mapping, and its permitted documents
unfoldable pub permitted_index : Permission → IndexValue → PermittedIndex
permitted_index permission index = record { mapping = projected_mapping permission.fields index.mapping; documents = permitted_documents permission index.documents }

-- the indices that are granted, by the permission on each name, each as it may be seen
unfoldable pub permitted_catalog : (List ℕ → Permission) → CatalogValue → map.FinMap text_cmp PermittedIndex
permitted_catalog permission catalog = mapped (λ name index. permitted_index (permission name) index) (map.retain_keys catalog (λ name. (permission name).granted))
