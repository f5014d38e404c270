-- The indices and their documents.
use Rattle.std.specs.Prelude.{ℕ, ◌==◌, Bool, List, Option, Some, None, IfSome}
use Rattle.std.specs.FinMap as map
use Rattle.std.specs.List.{filter, list_any}
use Rattle.es_glob.specs.Patterns.{fits}
use Rattle.es_tree.specs.declared.tree.Named.{Named}
use Rattle.es_value.specs.declared.kinds.FieldType.{FieldType}
use Rattle.es_mapping.specs.Mappings.{IsWithin}
use Rattle.es_catalog.specs.declared.index.Stored.{Stored}
pub use Rattle.es_map.specs.Views.{text_cmp}

-- an index: the place of the change that created it, its mapping, and its documents by their ids
pub record IndexValue : Type 0 where
  pub incarnation : ℕ
  pub mapping : List (Named FieldType)
  pub documents : map.FinMap text_cmp Stored

-- the indices by their names
abbrev pub CatalogValue : Type 0
CatalogValue = map.FinMap text_cmp IndexValue

abbrev pub document_in : Option IndexValue → List ℕ → Option Stored
document_in None id = None
document_in (Some index) id = map.get index.documents id

-- the document of that index and id, if both stand
abbrev pub document_at : CatalogValue → List ℕ → List ℕ → Option Stored
document_at catalog name id = document_in (map.get catalog name) id

-- the names of the indices that fit the pattern, in byte order
abbrev pub fitting : CatalogValue → List ℕ → List (List ℕ)
fitting catalog pattern = filter (fits pattern) (map.keys catalog)

-- whether an index of that incarnation stands
abbrev pub stands : CatalogValue → ℕ → Bool
stands catalog incarnation = list_any (λ index. index.incarnation == incarnation) (map.values catalog)

-- each document was written under a mapping within its index's
abbrev pub HasWritten : IndexValue → Type 0
HasWritten index = (id : List ℕ) → IfSome (map.get index.documents id) (λ stored. IsWithin stored.written index.mapping)

-- so it is in the index of that name, if it stands
abbrev pub HasWrittenAt : CatalogValue → List ℕ → Type 0
HasWrittenAt catalog name = IfSome (map.get catalog name) HasWritten
