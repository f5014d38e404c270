-- How the values are stored.
use Rattle.std.specs.Prelude.{ℕ, List, refl}
use Rattle.std.specs.Coded.{Coded, code_by, coded×, coded_ℕ}
use Rattle.std.specs.FinMap as map
use Rattle.es_tree.specs.declared.tree.Named.{Named}
use Rattle.es_value.specs.declared.kinds.FieldType.{FieldType}
use Rattle.es_mapping.specs.contracts.mapping.Mapping as mapping
use Rattle.es_catalog.specs.declared.index.Stored.{Stored}
use Rattle.es_catalog.specs.contracts.index.Stored as stored
pub use Rattle.es_map.specs.Views.{text_code}
use Rattle.es_catalog.specs.Catalog.{text_cmp, IndexValue, CatalogValue}

abbrev pub index_code : Coded IndexValue
index_code =
    code_by (ℕ × (List (Named FieldType) × map.FinMap text_cmp Stored)) (coded× coded_ℕ (coded× mapping.the_row.coded (map.code text_code stored.the_row.coded)))
    (λ index. (index.incarnation, (index.mapping, index.documents))) (λ p. record { incarnation = p.0; mapping = p.1.0; documents = p.1.1 }) (λ _. refl)

abbrev pub catalog_code : Coded CatalogValue
catalog_code = map.code text_code index_code
