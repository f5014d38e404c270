use Rattle.es_records.proofs.Walked.{one_part_more}
use Rattle.es_records.proofs.halves.role_of_parts.Goals as goal

pub loop-one-preserved : goal.loop-one-preserved
loop-one-preserved c =
    one_part_more c.args.named.now c.loop-one.one-index c.one-item.result c.loop-one.parts c.push.new.self _ c.loop-one-test.true c.one-item.is c.loop-one.invariant c.in_ok-share.ensures c.in_ok-push.ensures.ok
