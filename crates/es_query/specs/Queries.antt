-- Queries, as trees are read. Their names and forms are those of the query language of Elasticsearch 8.
use Rattle.std.specs.Prelude.{ℕ, zero, suc, ◌-◌, ◌^◌, ℤ, pos, unsigned_abs, List, [], Option, Result, Ok, Err, Bool, true, false, not, ◌&&◌, ◌||◌, codes, if◌then◌else◌, is_some}
use Rattle.std.specs.Str.{bytes_eq}
use Rattle.std.specs.Option.{option_or, option_map}
use Rattle.es_tree.specs.declared.tree.Tree.{Tree, out-Tree}
use Rattle.es_tree.specs.declared.tree.Tree.TheOpen.{Tree-F}
use Rattle.es_tree.specs.declared.tree.Named.{Named}
use Rattle.es_grammar.specs.Reading.{or_empty, if_holds}
use Rattle.es_grammar.specs.Members.{named}
use Rattle.es_grammar.specs.Grammar.{◌>>=◌, object, member, no_more, required, only_member, means, means_where}
use Rattle.es_grammar.specs.Values.{text_form, whole_form, list_form, one_or_list_form}
use Rattle.es_query.specs.declared.kinds.Bounds.{Bounds}
use Rattle.es_query.specs.declared.kinds.Query.{Query}
use Rattle.es_query.specs.declared.kinds.Query as query

abbrev pub is_scalar_in : Tree-F Tree → Bool
is_scalar_in Tree-F.Null = true
is_scalar_in (Tree-F.Bool b) = true
is_scalar_in (Tree-F.Int z) = true
is_scalar_in (Tree-F.Text s) = true
is_scalar_in (Tree-F.List ts) = false
is_scalar_in (Tree-F.Object ms) = false

abbrev pub is_null_in : Tree-F Tree → Bool
is_null_in Tree-F.Null = true
is_null_in (Tree-F.Bool b) = false
is_null_in (Tree-F.Int z) = false
is_null_in (Tree-F.Text s) = false
is_null_in (Tree-F.List ts) = false
is_null_in (Tree-F.Object ms) = false

-- a text, a whole number, a truth value or null, kept as it is
abbrev pub scalar_form : Tree → Result Tree (List ℕ)
scalar_form t = if_holds (is_scalar_in (out-Tree t)) t

-- one of these that isn't null
abbrev pub known_form : Tree → Result Tree (List ℕ)
known_form t = if_holds (is_scalar_in (out-Tree t) && not (is_null_in (out-Tree t))) t

unfoldable pub no_members_form : Query → Tree → Result Query (List ℕ)
no_members_form q = object (do
  end ← no_more
  means q)

unfoldable pub value_form : Tree → Result Tree (List ℕ)
value_form = object (do
  value ← member (codes "value") known_form
  end ← no_more
  required value)

abbrev pub term_value_in : Tree → Tree-F Tree → Result Tree (List ℕ)
term_value_in t Tree-F.Null = known_form t
term_value_in t (Tree-F.Bool b) = known_form t
term_value_in t (Tree-F.Int z) = known_form t
term_value_in t (Tree-F.Text s) = known_form t
term_value_in t (Tree-F.List ts) = known_form t
term_value_in t (Tree-F.Object ms) = value_form t

-- the value of a term: itself, or within an object as its `value`
abbrev pub term_value_form : Tree → Result Tree (List ℕ)
term_value_form t = term_value_in t (out-Tree t)

-- exactly one field, and what is asked of it
abbrev pub field_form : {A : Type 0} → (Tree → Result A (List ℕ)) → Tree → Result (Named A) (List ℕ)
field_form form = object (only_member (named (λ name. true) form))

abbrev pub term_of : Named Tree → Query
term_of m = query.Term m.name m.value

abbrev pub terms_of : Named (List Tree) → Query
terms_of m = query.Terms m.name m.value

abbrev pub range_of : Named Bounds → Query
range_of m = query.Range m.name m.value

abbrev pub at_most_one : Option Tree → Option Tree → Bool
at_most_one o p = not (is_some o && is_some p)

-- at least one bound, and at most one on each side
abbrev pub are_fair : (gt gte lt lte : Option Tree) → Bool
are_fair gt gte lt lte = ((is_some gt || is_some gte) || (is_some lt || is_some lte)) && (at_most_one gt gte && at_most_one lt lte)

-- a bound is open where it is `gt` or `lt`
abbrev pub bounds_of : (gt gte lt lte : Option Tree) → Bounds
bounds_of gt gte lt lte = record { low = option_or gt gte; low_open = is_some gt; high = option_or lt lte; high_open = is_some lt }

unfoldable pub bounds_form : Tree → Result Bounds (List ℕ)
bounds_form = object (do
  gt ← member (codes "gt") scalar_form
  gte ← member (codes "gte") scalar_form
  lt ← member (codes "lt") scalar_form
  lte ← member (codes "lte") scalar_form
  end ← no_more
  means_where (λ b. are_fair gt gte lt lte) (bounds_of gt gte lt lte))

unfoldable pub exists_form : Tree → Result Query (List ℕ)
exists_form = object (do
  field ← member (codes "field") text_form
  end ← no_more
  the_field ← required field
  means (query.Exists the_field))

-- whole numbers from 0 on, as far as a tree has them
abbrev pub count_form : Tree → Result ℤ (List ℕ)
count_form = whole_form (pos 0) (pos (2 ^ 63 - 1))

-- Each clause is a query or a list of them, which `inner` reads.
unfoldable pub bool_form : (Tree → Result Query (List ℕ)) → Tree → Result Query (List ℕ)
bool_form inner = object (do
  filter ← member (codes "filter") (one_or_list_form inner)
  minimum ← member (codes "minimum_should_match") count_form
  must ← member (codes "must") (one_or_list_form inner)
  must_not ← member (codes "must_not") (one_or_list_form inner)
  should ← member (codes "should") (one_or_list_form inner)
  end ← no_more
  means (query.Bool (record { must = or_empty must; filter = or_empty filter; should = or_empty should; must_not = or_empty must_not; minimum = option_map unsigned_abs minimum })))

abbrev pub then_query : {A : Type 0} → (A → Query) → Result A (List ℕ) → Result Query (List ℕ)
then_query f (Ok x) = Ok (f x)
then_query f (Err p) = Err p

-- the member of a query that has this name; queries inside it are read by `inner`
unfoldable pub clause_form : (Tree → Result Query (List ℕ)) → List ℕ → Tree → Result Query (List ℕ)
clause_form inner name t =
    if bytes_eq name (codes "bool") then bool_form inner t else
    (if bytes_eq name (codes "exists") then exists_form t else
    (if bytes_eq name (codes "match_all") then no_members_form query.All t else
    (if bytes_eq name (codes "match_none") then no_members_form query.Nothing t else
    (if bytes_eq name (codes "range") then then_query range_of (field_form bounds_form t) else
    (if bytes_eq name (codes "term") then then_query term_of (field_form term_value_form t) else
    (if bytes_eq name (codes "terms") then then_query terms_of (field_form (list_form scalar_form) t) else Err []))))))

-- An object with exactly one member, which is a clause. Queries stand at most so many levels inside one another.
abbrev pub query_at : ℕ → Tree → Result Query (List ℕ)
query_at zero t = Err []
query_at (suc n) t = object (only_member (clause_form (query_at n))) t

-- more levels than any tree in memory has
unfoldable pub most_levels : ℕ
most_levels = 2 ^ 64 - 1

-- the one member of a query, by its name
abbrev pub query_clause_form : List ℕ → Tree → Result Query (List ℕ)
query_clause_form = clause_form (query_at (most_levels - 1))

-- the query that a tree is, or the place of its first fault
unfoldable pub query_form : Tree → Result Query (List ℕ)
query_form = query_at most_levels
