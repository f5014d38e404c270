-- Queries as they are printed: in one canonical form.
use Rattle.std.specs.Prelude.{ℕ, ◌-◌, ◌^◌, min, ℤ, pos, List, [], ◌∷◌, ◌++◌, map, Option, Some, None, Bool, codes, if◌then◌else◌}
use Rattle.es_tree.specs.declared.tree.Tree.{Tree}
use Rattle.es_tree.specs.declared.tree.Tree as tree
use Rattle.es_tree.specs.declared.tree.Named.{Named}
use Rattle.es_query.specs.declared.kinds.Bounds.{Bounds}
use Rattle.es_query.specs.declared.kinds.Clauses.{Clauses}
use Rattle.es_query.specs.declared.kinds.Query.{Query}
use Rattle.es_query.specs.declared.kinds.Query.TheOpen.{Query-F}
use Rattle.es_query.specs.declared.kinds.Query.TheFolds.{fold-Query}

-- an object with this one member
abbrev pub single : List ℕ → Tree → Tree
single name t = tree.Object (record { name = name; value = t } ∷ [])

-- the member of a bound, by the name of an open one and of one that isn't
abbrev pub bound_members : List ℕ → List ℕ → Bool → Option Tree → List (Named Tree)
bound_members open_name closed_name is_open None = []
bound_members open_name closed_name is_open (Some t) = record { name = if is_open then open_name else closed_name; value = t } ∷ []

-- a list of queries, left out where it is empty
abbrev pub clause_members : List ℕ → List Tree → List (Named Tree)
clause_members name [] = []
clause_members name (t ∷ ts) = record { name = name; value = tree.List (t ∷ ts) } ∷ []

-- the number that a tree has for a count: the greatest that any tree has, where the count is greater (no list of queries is so long)
unfoldable pub printed_count : ℕ → ℤ
printed_count n = pos (min n (2 ^ 63 - 1))

abbrev pub minimum_members : Option ℕ → List (Named Tree)
minimum_members None = []
minimum_members (Some n) = record { name = codes "minimum_should_match"; value = tree.Int (printed_count n) } ∷ []

abbrev pub bounds_tree : Bounds → Tree
bounds_tree b = tree.Object (bound_members (codes "gt") (codes "gte") b.low_open b.low ++ bound_members (codes "lt") (codes "lte") b.high_open b.high)

-- the clauses as lists, the empty ones left out
abbrev pub clauses_tree : Clauses Tree → Tree
clauses_tree c = tree.Object (clause_members (codes "filter") c.filter ++ (minimum_members c.minimum ++ (clause_members (codes "must") c.must ++ (clause_members (codes "must_not") c.must_not ++ clause_members (codes "should") c.should))))

abbrev pub printed_step : Query-F Tree → Tree
printed_step Query-F.All = single (codes "match_all") (tree.Object [])
printed_step Query-F.Nothing = single (codes "match_none") (tree.Object [])
printed_step (Query-F.Term field t) = single (codes "term") (single field t)
printed_step (Query-F.Terms field ts) = single (codes "terms") (single field (tree.List ts))
printed_step (Query-F.Range field bounds) = single (codes "range") (single field (bounds_tree bounds))
printed_step (Query-F.Exists field) = single (codes "exists") (single (codes "field") (tree.Text field))
printed_step (Query-F.Bool c) = single (codes "bool") (clauses_tree c)

-- the canonical tree of a query
unfoldable pub query_tree : Query → Tree
query_tree = fold-Query Tree printed_step

-- ---- for private clauses

-- the clauses with the tree of each query in its place
abbrev pub with_trees : Clauses Query → Clauses Tree
with_trees c = record { must = map query_tree c.must; filter = map query_tree c.filter; should = map query_tree c.should; must_not = map query_tree c.must_not; minimum = c.minimum }
