use Rattle.es_query.proofs.Rising.{clauses_added}
use Rattle.es_query.proofs.printing.print_clauses.Goals as goal

pub of-requires : goal.of-requires
of-requires c =
    rw (c.in_ok-add_clause-4.ensures, c.in_ok-add_clause-3.ensures, c.in_ok-add_clause-2.ensures, c.in_ok-add_minimum.ensures, c.in_ok-add_clause.ensures, c.empty-members.ensures)
    (clauses_added c.args.clauses.filter c.args.clauses.minimum c.args.clauses.must c.args.clauses.must_not c.args.clauses.should)
