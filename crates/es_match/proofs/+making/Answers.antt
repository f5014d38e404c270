use Rattle.std.proofs.Common.{List, sym, subst}
use Rattle.es_query.specs.declared.kinds.Query.{Query}
use Rattle.es_match.specs.declared.matcher.Matcher.{Matcher}
use Rattle.es_match.specs.declared.matcher.Matcher as ready
use Rattle.es_match.specs.Ready.{StandsWithin, AllStand}
use Rattle.es_match.proofs.Standing.{bool_stands}
use Rattle.es_match.proofs.+making.Goals as goal

pub matcher::Matcher::new-returns-in_ok-each-in-Bool-4 : goal.matcher::Matcher::new-returns-in_ok-each-in-Bool-4
matcher::Matcher::new-returns-in_ok-each-in-Bool-4 t c =
    let mapping = c.args.mapping.now in
    let clauses = c.in-Bool.clauses in
    let must = c.in_ok-each-in-Bool.field-0 in
    let filter = c.in_ok-each-in-Bool-2.field-0 in
    let should = c.in_ok-each-in-Bool-3.field-0 in
    let must_not = c.in_ok-each-in-Bool-4.field-0 in
    let stands = bool_stands must filter should must_not clauses mapping
    (subst (λ (qs : List Query). AllStand must qs mapping) c.as_slice.ensures c.in_ok-each-in-Bool.ensures)
    (subst (λ (qs : List Query). AllStand filter qs mapping) c.as_slice-in-Bool.ensures c.in_ok-each-in-Bool-2.ensures)
    (subst (λ (qs : List Query). AllStand should qs mapping) c.as_slice-in-Bool-2.ensures c.in_ok-each-in-Bool-3.ensures)
    (subst (λ (qs : List Query). AllStand must_not qs mapping) c.as_slice-in-Bool-3.ensures c.in_ok-each-in-Bool-4.ensures) in
    subst (λ (q : Query). StandsWithin (ready.Bool (record { must = must; filter = filter; should = should; must_not = must_not; minimum = clauses.minimum })) q mapping) (sym c.in-Bool.is) stands
