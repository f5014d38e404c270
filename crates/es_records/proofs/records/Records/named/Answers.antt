use Rattle.es_records.proofs.Walked.{one_name_more, all_names}
use Rattle.es_records.proofs.records.Records.named.Goals as goal

pub loop-name-preserved : goal.loop-name-preserved
loop-name-preserved c =
    one_name_more c.args.self.now c.as_slice-name-items.result.now c.loop-name.name-index c.name-item.result c.loop-name.found c.add_named.new.found c.loop-name-test.true c.name-item.is c.loop-name.invariant
    c.in_ok-add_named.ensures

pub returns : goal.returns
returns c = all_names c.args.self.now c.args.names.now c.as_slice-name-items.result.now c.loop-name.name-index c.loop-name.found c.loop-name.invariant c.as_slice-name-items.ensures c.loop-name-test.false
