-- Laws of queries.
use Rattle.std.specs.Prelude.{◌≡◌, Ok, IsTrue}
use Rattle.es_tree.specs.declared.tree.Tree.{Tree}
use Rattle.es_grammar.specs.Grammar.{object, only_member}
use Rattle.es_query.specs.declared.kinds.Query.{Query}
use Rattle.es_query.specs.Queries.{query_form, query_clause_form}
use Rattle.es_query.specs.Printed.{query_tree}
use Rattle.es_query.specs.Sound.{is_query}

-- a query is an object whose one member is a clause
abbrev pub IsReadByClause : Type 0
IsReadByClause = (t : Tree) → query_form t ≡ object (only_member query_clause_form) t

-- what is read is sound
abbrev pub ReadIsSound : Type 0
ReadIsSound = (t : Tree) (query : Query) → query_form t ≡ Ok query → IsTrue (is_query query)

-- sound queries that print the same are the same
abbrev pub SamePrintIsSame : Type 0
SamePrintIsSame = (one other : Query) → IsTrue (is_query one) → IsTrue (is_query other) → query_tree one ≡ query_tree other → one ≡ other
