-- Lists of entries as maps from texts.
use Rattle.std.specs.Prelude.{ℕ, List}
use Rattle.es_tree.specs.declared.tree.Named.{Named}
use Rattle.es_value.specs.declared.kinds.FieldType.{FieldType}
use Rattle.es_catalog.specs.declared.index.Stored.{Stored}
use Rattle.es_map.specs.Entries.{IsRising}
use Rattle.es_map.specs.Views.{map_of}
use Rattle.es_catalog.specs.Catalog.{IndexValue, HasWritten}

-- an index of these documents
abbrev pub index_of : ℕ → List (Named FieldType) → List (List ℕ × Stored) → IndexValue
index_of incarnation mapping documents = record { incarnation = incarnation; mapping = mapping; documents = map_of documents }

-- the documents of an index are in the order of their ids, and each was written under a mapping within the index's
pub record IsKept (incarnation : ℕ) (mapping : List (Named FieldType)) (documents : List (List ℕ × Stored)) : Type 0 where
  pub rising : IsRising documents
  pub written : HasWritten (index_of incarnation mapping documents)
