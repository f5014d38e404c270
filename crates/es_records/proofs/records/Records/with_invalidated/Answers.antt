use Rattle.std.proofs.Common.{sym, ◌∙◌}
use Rattle.es_records.proofs.Changed.{invalidated_none, one_id_more}
use Rattle.es_records.proofs.records.Records.with_invalidated.Goals as goal

pub loop-id-init : goal.loop-id-init
loop-id-init c = c.in_ok-records.ensures ∙ sym (invalidated_none c.args.self.now)

pub loop-id-preserved : goal.loop-id-preserved
loop-id-preserved c =
    one_id_more c.args.self.now c.args.ids.now c.loop-id.id-index c.id-item.result _ c.loop-id.records _ c.loop-id-test.true c.id-item.is c.text.ensures c.loop-id.invariant c.in_ok-records-2.ensures
