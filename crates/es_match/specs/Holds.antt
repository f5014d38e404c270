-- Whether a query holds on a document.
use Rattle.std.specs.Prelude.{◌≡◌, ℕ, suc, List, [], ◌∷◌, Option, Some, None, Bool, true, false, not, ◌&&◌, nat_le}
use Rattle.std.specs.List.{list_all, list_any}
use Rattle.es_tree.specs.declared.tree.Tree.{Tree}
use Rattle.es_tree.specs.declared.tree.Named.{Named}
use Rattle.es_query.specs.declared.kinds.Clauses.{Clauses}
use Rattle.es_query.specs.declared.kinds.Query.{Query}
use Rattle.es_query.specs.declared.kinds.Query.TheOpen.{Query-F}
use Rattle.es_query.specs.declared.kinds.Query.TheFolds.{fold-Query}
use Rattle.es_value.specs.declared.kinds.FieldType.{FieldType}
use Rattle.es_value.specs.declared.kinds.Value.{Value}
use Rattle.es_value.specs.Values.{typed}
use Rattle.es_match.specs.Compared.{has_value, has_in_range}
use Rattle.es_match.specs.Seen.{Seen, seen_under}

abbrev pub has_any : List Value → Bool
has_any [] = false
has_any (v ∷ vs) = true

-- A field that isn't mapped meets nothing. Others are asked by their type, on their values.
abbrev pub on_field : Option (FieldType × List Value) → (FieldType → List Value → Bool) → Bool
on_field None asks = false
on_field (Some field) asks = asks field.0 field.1

-- how many are true
abbrev pub how_many : List Bool → ℕ
how_many [] = 0
how_many (true ∷ bs) = suc (how_many bs)
how_many (false ∷ bs) = how_many bs

-- Without a number of its own, a `bool` asks for one of `should` where there are such clauses and neither `must` nor `filter` has any.
abbrev pub default_minimum : {A : Type 0} → List A → List A → List A → ℕ
default_minimum [] [] [] = 0
default_minimum [] [] (x ∷ xs) = 1
default_minimum [] (x ∷ xs) should = 0
default_minimum (x ∷ xs) filter should = 0

abbrev pub least : Option ℕ → ℕ → ℕ
least None n = n
least (Some m) n = m

-- how many of `should` are asked for
abbrev pub minimum_of : {A : Type 0} → Clauses A → ℕ
minimum_of c = least c.minimum (default_minimum c.must c.filter c.should)

-- all of `must` and `filter`, none of `must_not`, and enough of `should`
abbrev pub clauses_hold : Clauses Bool → Bool
clauses_hold c = (list_all (λ b. b) c.must && list_all (λ b. b) c.filter) && (not (list_any (λ b. b) c.must_not) && nat_le (minimum_of c) (how_many c.should))

abbrev pub holds_step : Seen → Query-F Bool → Bool
holds_step seen Query-F.All = true
holds_step seen Query-F.Nothing = false
holds_step seen (Query-F.Term field t) = on_field (seen field) (λ kind vs. has_value (typed kind t) vs)
holds_step seen (Query-F.Terms field ts) = on_field (seen field) (λ kind vs. list_any (λ t. has_value (typed kind t) vs) ts)
holds_step seen (Query-F.Range field bounds) = on_field (seen field) (λ kind vs. has_in_range kind bounds vs)
holds_step seen (Query-F.Exists field) = on_field (seen field) (λ kind vs. has_any vs)
holds_step seen (Query-F.Bool c) = clauses_hold c

-- whether the query holds where this is seen
unfoldable pub holds_on : Seen → Query → Bool
holds_on seen = fold-Query Bool (holds_step seen)

-- whether the query holds on the document, whose fields have the types of the mapping
abbrev pub query_holds : List (Named FieldType) → Tree → Query → Bool
query_holds mapping document = holds_on (seen_under mapping document)

-- where the same is seen, the same queries hold
abbrev pub HoldsAlike : Type 0
HoldsAlike = (one other : Seen) → ((field : List ℕ) → one field ≡ other field) → (query : Query) → holds_on one query ≡ holds_on other query
