use Rattle.std.proofs.Common.{◌≡◌, ◌+◌, ◌*◌, drop}
use Rattle.es_grammar.specs.Members.{each_of}
use Rattle.es_grammar.specs.Values.{items_of}
use Rattle.es_grammar.proofs.Fronts.{with_front}
use Rattle.es_query.specs.Queries.{query_at, clause_form}
use Rattle.es_query.proofs.reading.+query.Given as goal

abbrev pub decreases-query : goal.decreases-query
decreases-query l = 8 * l.levels

abbrev pub decreases-list : goal.decreases-list
decreases-list l = 8 * l.levels + 1

abbrev pub decreases-one_or_list : goal.decreases-one_or_list
decreases-one_or_list l = 8 * l.levels + 2

abbrev pub decreases-queries : goal.decreases-queries
decreases-queries l = 8 * l.levels + 3

abbrev pub decreases-every_clause : goal.decreases-every_clause
decreases-every_clause l = 8 * l.levels + 4

abbrev pub decreases-clause : goal.decreases-clause
decreases-clause l = 8 * l.levels + 5

abbrev pub decreases-clause_at : goal.decreases-clause_at
decreases-clause_at l = 8 * l.levels + 6

abbrev pub decreases-each_clause : goal.decreases-each_clause
decreases-each_clause l = 8 * l.levels + 7

abbrev pub invariant-each_clause-loop-member : goal.invariant-each_clause-loop-member
invariant-each_clause-loop-member l = with_front l.found (each_of (clause_form (query_at l.levels)) (drop l.member-index l.members)) ≡ each_of (clause_form (query_at l.levels)) l.members

abbrev pub invariant-list-loop-number : goal.invariant-list-loop-number
invariant-list-loop-number l = with_front l.found (items_of (query_at l.levels) l.number (drop l.number l.items)) ≡ items_of (query_at l.levels) 0 l.items
