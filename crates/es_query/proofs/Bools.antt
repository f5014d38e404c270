-- The lines of a `bool` query, each with those behind it.
use Rattle.std.proofs.Common.{◌≡◌, ℕ, ℤ, List, Option, Result, codes, refl}
use Rattle.std.specs.Option.{option_map}
use Rattle.std.specs.Prelude.{unsigned_abs}
use Rattle.es_tree.specs.declared.tree.Tree.{Tree}
use Rattle.es_tree.specs.declared.tree.Named.{Named}
use Rattle.es_grammar.specs.Reading.{or_empty}
use Rattle.es_grammar.specs.Grammar.{◌>>=◌, object, member, no_more, means}
use Rattle.es_grammar.specs.Values.{one_or_list_form}
use Rattle.es_query.specs.declared.kinds.Clauses.{Clauses}
use Rattle.es_query.specs.declared.kinds.Query.{Query}
use Rattle.es_query.specs.declared.kinds.Query as query
use Rattle.es_query.specs.Queries.{bool_form, count_form}

-- what the members of a `bool` mean
abbrev pub clauses_of : (filter : Option (List Query)) (minimum : Option ℤ) (must must_not should : Option (List Query)) → Clauses Query
clauses_of filter minimum must must_not should = record { must = or_empty must; filter = or_empty filter; should = or_empty should; must_not = or_empty must_not; minimum = option_map unsigned_abs minimum }

abbrev pub meant : Option (List Query) → Option ℤ → Option (List Query) → Option (List Query) → Option (List Query) → List (Named Tree) → Result (Query × List (Named Tree)) (List ℕ)
meant filter minimum must must_not should = means (query.Bool (clauses_of filter minimum must must_not should))

abbrev pub at_end : Option (List Query) → Option ℤ → Option (List Query) → Option (List Query) → Option (List Query) → List (Named Tree) → Result (Query × List (Named Tree)) (List ℕ)
at_end filter minimum must must_not should = no_more >>= λ end. meant filter minimum must must_not should

module _ (inner : Tree → Result Query (List ℕ)) where
  abbrev pub at_should : Option (List Query) → Option ℤ → Option (List Query) → Option (List Query) → List (Named Tree) → Result (Query × List (Named Tree)) (List ℕ)
  at_should filter minimum must must_not = member (codes "should") (one_or_list_form inner) >>= at_end filter minimum must must_not

  abbrev pub at_must_not : Option (List Query) → Option ℤ → Option (List Query) → List (Named Tree) → Result (Query × List (Named Tree)) (List ℕ)
  at_must_not filter minimum must = member (codes "must_not") (one_or_list_form inner) >>= at_should filter minimum must

  abbrev pub at_must : Option (List Query) → Option ℤ → List (Named Tree) → Result (Query × List (Named Tree)) (List ℕ)
  at_must filter minimum = member (codes "must") (one_or_list_form inner) >>= at_must_not filter minimum

  abbrev pub at_minimum : Option (List Query) → List (Named Tree) → Result (Query × List (Named Tree)) (List ℕ)
  at_minimum filter = member (codes "minimum_should_match") count_form >>= at_must filter

  abbrev pub at_filter : List (Named Tree) → Result (Query × List (Named Tree)) (List ℕ)
  at_filter = member (codes "filter") (one_or_list_form inner) >>= at_minimum

  pub bool_lines : (t : Tree) → bool_form inner t ≡ object at_filter t
  unfolding bool_form
  bool_lines t = refl
