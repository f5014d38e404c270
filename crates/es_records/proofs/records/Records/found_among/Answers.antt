use Rattle.std.proofs.Common.{sym, ap, ◌∙◌}
use Rattle.std.specs.Option.{option_copied}
use Rattle.std.specs.FinMap as map
use Rattle.es_cred.specs.Names.{in_order}
use Rattle.es_records.proofs.Walked.{id_found, id_unknown, all_ids, nothing}
use Rattle.es_records.proofs.records.Records.found_among.Goals as goal
use Rattle.es_records.proofs.records.Records.found_among.Goals.{in-Some+in_ok-add, in_default}

pub loop-id-preserved : goal.loop-id-preserved
loop-id-preserved c = elim c.match-key.branch [
  | in-Some+in_ok-add w ↦ id_found (option_copied c.args.owner) c.args.self.now.keys c.as_slice-id-items.result.now c.loop-id.id-index c.id-item.result c.loop-id-test.true c.id-item.is c.loop-id.found c.loop-id.invariant _ _ (sym (w.in-Some.ensures ∙ ap (map.get c.args.self.now.keys) c.text.ensures)) (w.found-is ∙ w.in_ok-add.ensures)
  | in_default w ↦ w.found-is ∙ id_unknown (option_copied c.args.owner) c.args.self.now.keys c.as_slice-id-items.result.now c.loop-id.id-index c.id-item.result c.loop-id-test.true c.id-item.is c.loop-id.found c.loop-id.invariant (nothing c.key.result _ (c.key.ensures ∙ ap (map.get c.args.self.now.keys) c.text.ensures) w.in_default.not-Some)
]

pub returns : goal.returns
returns c =
    all_ids (option_copied c.args.owner) c.args.self.now.keys c.args.ids.now c.as_slice-id-items.result.now c.loop-id.id-index c.loop-id.found (c.as_slice-id-items.ensures ∙ c.in_ok-ordered.ensures.ordered ∙ ap in_order c.in_ok-copy.ensures) c.loop-id-test.false c.loop-id.invariant
