use Rattle.es_compose.specs.declared.member.Member.{Member}
use Rattle.es_compose.proofs.Permitted.{filtered_more}
use Rattle.es_compose.proofs.permitting.pairs_of.Goals as goal

pub loop-member-preserved : goal.loop-member-preserved
loop-member-preserved c =
    filtered_more c.args.members.now c.loop-member.member-index c.member-item.result c.loop-member-test.true c.member-item.is (λ (member : Member). member.fields) c.loop-member.pairs c.add_pair.new.pairs c.loop-member.invariant c.in_ok-add_pair.ensures
