-- The tree of each kind of query.
use Rattle.std.proofs.Common.{◌≡◌, ℕ, List, [], codes, rules}
use Rattle.es_tree.specs.declared.tree.Tree.{Tree}
use Rattle.es_tree.specs.declared.tree.Tree as tree
use Rattle.es_query.specs.declared.kinds.Bounds.{Bounds}
use Rattle.es_query.specs.declared.kinds.Clauses.{Clauses}
use Rattle.es_query.specs.declared.kinds.Query.{Query, the_lemmas}
use Rattle.es_query.specs.declared.kinds.Query as query
use Rattle.es_query.specs.Printed.{single, bounds_tree, clauses_tree, with_trees, query_tree}

pub query_tree-All : query_tree query.All ≡ single (codes "match_all") (tree.Object [])
unfolding query_tree
query_tree-All = search (rules, the_lemmas)

pub query_tree-Nothing : query_tree query.Nothing ≡ single (codes "match_none") (tree.Object [])
unfolding query_tree
query_tree-Nothing = search (rules, the_lemmas)

pub query_tree-Term : (field : List ℕ) (t : Tree) → query_tree (query.Term field t) ≡ single (codes "term") (single field t)
unfolding query_tree
query_tree-Term field t = search (rules, the_lemmas)

pub query_tree-Terms : (field : List ℕ) (ts : List Tree) → query_tree (query.Terms field ts) ≡ single (codes "terms") (single field (tree.List ts))
unfolding query_tree
query_tree-Terms field ts = search (rules, the_lemmas)

pub query_tree-Range : (field : List ℕ) (bounds : Bounds) → query_tree (query.Range field bounds) ≡ single (codes "range") (single field (bounds_tree bounds))
unfolding query_tree
query_tree-Range field bounds = search (rules, the_lemmas)

pub query_tree-Exists : (field : List ℕ) → query_tree (query.Exists field) ≡ single (codes "exists") (single (codes "field") (tree.Text field))
unfolding query_tree
query_tree-Exists field = search (rules, the_lemmas)

pub query_tree-Bool : (c : Clauses Query) → query_tree (query.Bool c) ≡ single (codes "bool") (clauses_tree (with_trees c))
unfolding query_tree
query_tree-Bool c = search (rules, the_lemmas)

pub ruleset query_trees = (query_tree-All, query_tree-Nothing, query_tree-Term, query_tree-Terms, query_tree-Range, query_tree-Exists, query_tree-Bool)
