use Rattle.es_compose.specs.Ready.{query_filled}
use Rattle.es_compose.proofs.Permitted.{filtered_more}
use Rattle.es_compose.proofs.permitting.queries_of.Goals as goal

pub loop-member-preserved : goal.loop-member-preserved
loop-member-preserved c =
    filtered_more c.args.members.now c.loop-member.member-index c.member-item.result c.loop-member-test.true c.member-item.is (query_filled c.args.person.now) c.loop-member.queries c.add_query.new.queries c.loop-member.invariant c.in_ok-add_query.ensures
