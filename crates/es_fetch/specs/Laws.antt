-- What stands in what somebody may see.
use Rattle.std.specs.Prelude.{◌≡◌, ℕ, List, Option, Some, None, option_map, if◌then◌else◌}
use Rattle.std.specs.FinMap as map
use Rattle.es_catalog.specs.declared.index.Stored.{Stored}
use Rattle.es_catalog.specs.Catalog.{text_cmp, CatalogValue}
use Rattle.es_compose.specs.declared.kinds.Permission.{Permission}
use Rattle.es_fetch.specs.declared.shown.Shown.{Shown}
use Rattle.es_fetch.specs.Permitted.{permits, shown, permitted_documents, permitted_index, permitted_catalog}

-- what is shown of a document, if it stands and is permitted
abbrev pub shown_if : Permission → Option Stored → Option Shown
shown_if permission None = None
shown_if permission (Some stored) = if permits permission.docs stored then Some (shown permission.fields stored) else None

-- a document is seen where it stands and is permitted, and then as it is shown
abbrev pub DocumentSeen : Type 0
DocumentSeen = (permission : Permission) (documents : map.FinMap text_cmp Stored) (id : List ℕ)
    → map.get (permitted_documents permission documents) id ≡ shown_if permission (map.get documents id)

-- an index is seen where it stands and is granted, and then as it may be seen
abbrev pub IndexSeen : Type 0
IndexSeen = (permission : List ℕ → Permission) (catalog : CatalogValue) (name : List ℕ)
    → map.get (permitted_catalog permission catalog) name ≡ (if (permission name).granted then option_map (permitted_index (permission name)) (map.get catalog name) else None)
