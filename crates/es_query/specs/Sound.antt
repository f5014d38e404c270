-- What a query that was read is. Such a query is printed and read back.
use Rattle.std.specs.Prelude.{ℕ, suc, max, ◌^◌, List, Option, Some, None, Bool, true, not, ◌&&◌, ◌||◌, is_some, nat_lt, nat_le}
use Rattle.std.specs.List.{list_all}
use Rattle.es_tree.specs.declared.tree.Tree.{Tree, out-Tree}
use Rattle.es_tree.specs.Order.{greatest}
use Rattle.es_query.specs.declared.kinds.Bounds.{Bounds}
use Rattle.es_query.specs.declared.kinds.Clauses.{Clauses}
use Rattle.es_query.specs.declared.kinds.Query.{Query}
use Rattle.es_query.specs.declared.kinds.Query.TheOpen.{Query-F}
use Rattle.es_query.specs.declared.kinds.Query.TheFolds.{fold-Query}
use Rattle.es_query.specs.Queries.{is_scalar_in, is_null_in, most_levels}

-- a text, a whole number, a truth value or null
abbrev pub is_scalar : Tree → Bool
is_scalar t = is_scalar_in (out-Tree t)

-- one of these that isn't null
abbrev pub is_known : Tree → Bool
is_known t = is_scalar_in (out-Tree t) && not (is_null_in (out-Tree t))

-- a bound that is given is a scalar, and one that isn't is not open
abbrev pub is_bound : Option Tree → Bool → Bool
is_bound None is_open = not is_open
is_bound (Some t) is_open = is_scalar t

-- at least one bound is given
abbrev pub are_bounds : Bounds → Bool
are_bounds b = (is_some b.low || is_some b.high) && (is_bound b.low b.low_open && is_bound b.high b.high_open)

-- a number that trees have
abbrev pub is_count : Option ℕ → Bool
is_count None = true
is_count (Some n) = nat_lt n (2 ^ 63)

abbrev pub are_true : List Bool → Bool
are_true = list_all (λ b. b)

abbrev pub sound_step : Query-F Bool → Bool
sound_step Query-F.All = true
sound_step Query-F.Nothing = true
sound_step (Query-F.Term field t) = is_known t
sound_step (Query-F.Terms field ts) = list_all is_scalar ts
sound_step (Query-F.Range field bounds) = are_bounds bounds
sound_step (Query-F.Exists field) = true
sound_step (Query-F.Bool c) = ((are_true c.must && are_true c.filter) && (are_true c.should && are_true c.must_not)) && is_count c.minimum

-- each part of it is one that a tree has
unfoldable pub is_spelled : Query → Bool
is_spelled = fold-Query Bool sound_step

abbrev pub depth_step : Query-F ℕ → ℕ
depth_step Query-F.All = 1
depth_step Query-F.Nothing = 1
depth_step (Query-F.Term field t) = 1
depth_step (Query-F.Terms field ts) = 1
depth_step (Query-F.Range field bounds) = 1
depth_step (Query-F.Exists field) = 1
depth_step (Query-F.Bool c) = suc (max (max (greatest c.must) (greatest c.filter)) (max (greatest c.should) (greatest c.must_not)))

-- how many queries stand one inside the other
unfoldable pub depth_of : Query → ℕ
depth_of = fold-Query ℕ depth_step

-- what a query that was read is
abbrev pub is_query : Query → Bool
is_query q = is_spelled q && nat_le (depth_of q) most_levels
