-- The indices after a change.
use Rattle.std.specs.Prelude.{ℕ, ◌+◌, ◌<◌, ◌^◌, ⊤, List, Option, Some, None, option_map}
use Rattle.std.specs.FinMap as map
use Rattle.es_tree.specs.declared.tree.Tree.{Tree}
use Rattle.es_catalog.specs.declared.index.Stored.{Stored}
use Rattle.es_catalog.specs.declared.change.DocChange.{DocChange}
use Rattle.es_catalog.specs.declared.change.DocChange.TheVariants.{CreateIndex, DeleteIndex, Put, Delete}
use Rattle.es_catalog.specs.Catalog.{IndexValue, CatalogValue, document_at}

-- the version of a document, and none where it doesn't stand
abbrev pub version_of : Option Stored → Option ℕ
version_of stored = option_map (λ stored. stored.version) stored

-- the version after a put over this one, or over none: versions begin at 1, and again behind a delete
abbrev pub version_after : Option ℕ → ℕ
version_after None = 1
version_after (Some version) = version + 1

-- the index after a put of the document, which is written under the index's mapping
abbrev pub with_document : IndexValue → List ℕ → Tree → IndexValue
with_document index id document =
    record index { documents = map.insert index.documents id (record { version = version_after (version_of (map.get index.documents id)); document = document; written = index.mapping }) }

-- the index without the document
abbrev pub without_document : IndexValue → List ℕ → IndexValue
without_document index id = record index { documents = map.remove index.documents id }

-- the indices after a put into one of them, or a delete from it, if it stands
abbrev pub put_into : CatalogValue → List ℕ → Option IndexValue → List ℕ → Tree → CatalogValue
put_into catalog name None id document = catalog
put_into catalog name (Some index) id document = map.insert catalog name (with_document index id document)

abbrev pub delete_from : CatalogValue → List ℕ → Option IndexValue → List ℕ → CatalogValue
delete_from catalog name None id = catalog
delete_from catalog name (Some index) id = map.insert catalog name (without_document index id)

-- The indices after a change, which is the entry with that number. The number is the incarnation of an index that it creates.
unfoldable pub with_doc : CatalogValue → ℕ → DocChange → CatalogValue
with_doc catalog number (CreateIndex name mapping) = map.insert catalog name (record { incarnation = number; mapping = mapping; documents = map.empty })
with_doc catalog number (DeleteIndex name) = map.remove catalog name
with_doc catalog number (Put name id document) = put_into catalog name (map.get catalog name) id document
with_doc catalog number (Delete name id) = delete_from catalog name (map.get catalog name) id

-- a version as a number, and 0 where there is none
abbrev pub number_of : Option ℕ → ℕ
number_of None = 0
number_of (Some version) = version

-- the version that the change puts a document over can grow
abbrev pub CanGrow : CatalogValue → DocChange → Type 0
CanGrow catalog (CreateIndex name mapping) = ⊤
CanGrow catalog (DeleteIndex name) = ⊤
CanGrow catalog (Put name id document) = number_of (version_of (document_at catalog name id)) < 2 ^ 63
CanGrow catalog (Delete name id) = ⊤
