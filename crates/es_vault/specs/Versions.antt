-- How great versions are.
use Rattle.std.specs.Prelude.{ℕ, ◌≤◌, List}
use Rattle.es_catalog.specs.Catalog.{CatalogValue, document_at}
use Rattle.es_catalog.specs.Changes.{version_of, number_of}

-- no document has a version above this one
abbrev pub HasVersionsUpTo : ℕ → CatalogValue → Type 0
HasVersionsUpTo n catalog = (name id : List ℕ) → number_of (version_of (document_at catalog name id)) ≤ n
