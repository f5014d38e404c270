-- What a query that was made ready says of a document, for private clauses.
use Rattle.std.specs.Prelude.{◌≡◌, List, map, Bool, ◌&&◌, is_some}
use Rattle.std.specs.List.{list_any}
use Rattle.es_tree.specs.declared.tree.Tree.{Tree}
use Rattle.es_tree.specs.declared.tree.Named.{Named}
use Rattle.es_tree.specs.Find.{value_named}
use Rattle.es_path.specs.Scalars.{scalars_at}
use Rattle.es_query.specs.declared.kinds.Query.{Query}
use Rattle.es_value.specs.declared.kinds.FieldType.{FieldType}
use Rattle.es_match.specs.declared.matcher.Matcher.{Matcher}
use Rattle.es_match.specs.declared.matcher.Matcher.TheOpen.{Matcher-F}
use Rattle.es_match.specs.declared.matcher.Matcher.TheFolds.{fold-Matcher}
use Rattle.es_match.specs.Asked.{asks_of}
use Rattle.es_match.specs.Seen.{IsWithin}
use Rattle.es_match.specs.Holds.{query_holds, clauses_hold}

abbrev pub matcher_step : List (Named FieldType) → Tree → Matcher-F Bool → Bool
matcher_step written document (Matcher-F.Always b) = b
matcher_step written document (Matcher-F.Field path test) = list_any (asks_of test.kind test.asked) (scalars_at path document) && is_some (value_named path written)
matcher_step written document (Matcher-F.Bool c) = clauses_hold c

-- whether what was made ready holds on the document, which was written with this mapping
unfoldable pub matcher_holds : List (Named FieldType) → Tree → Matcher → Bool
matcher_holds written document = fold-Matcher Bool (matcher_step written document)

-- it holds on the documents on which the query does, whatever part of the mapping they were written with
abbrev pub StandsWithin : Matcher → Query → List (Named FieldType) → Type 0
StandsWithin matcher query whole = (written : List (Named FieldType)) (document : Tree) → IsWithin written whole → matcher_holds written document matcher ≡ query_holds written document query

-- one for each query
abbrev pub AllStand : List Matcher → List Query → List (Named FieldType) → Type 0
AllStand matchers queries whole = (written : List (Named FieldType)) (document : Tree) → IsWithin written whole → map (matcher_holds written document) matchers ≡ map (query_holds written document) queries
