use Rattle.std.specs.Option.{option_copied}
use Rattle.es_records.proofs.Walked.{key_more, all_found}
use Rattle.es_records.proofs.records.Records.found_in_all.Goals as goal

pub loop-place-preserved : goal.loop-place-preserved
loop-place-preserved c = key_more (option_copied c.args.owner) _ c.loop-place.place _ c.loop-place.found _ c.key_at.ensures c.loop-place.invariant c.in_ok-add.ensures

pub returns : goal.returns
returns c = all_found (option_copied c.args.owner) c.args.self.now.keys c.loop-place.place _ _ c.loop-place.invariant c.key_count-place-end.ensures c.loop-place-test.false
