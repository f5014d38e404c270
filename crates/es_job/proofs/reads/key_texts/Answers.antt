use Rattle.std.proofs.Common.{sym, ◌∙◌}
use Rattle.std.specs.FinMap as map
use Rattle.std.specs.Option.{option_copied}
use Rattle.es_keys.specs.Printed.{key_text}
use Rattle.es_records.specs.Keys.{is_owned}
use Rattle.es_job.proofs.Listing.{kept_all, kept_one, kept_none, values_len}
use Rattle.es_job.proofs.reads.key_texts.Goals as goal
use Rattle.es_job.proofs.reads.key_texts.Goals.{then-is_owned+in_ok-key_text+in_ok-push, else-is_owned}

pub loop-place-preserved : goal.loop-place-preserved
loop-place-preserved c =
    let keys = map.values c.args.records.now.keys in
    let owned = is_owned (option_copied c.args.owner) in
    elim c.if-is_owned.branch [
      | then-is_owned+in_ok-key_text+in_ok-push w ↦
          kept_one owned key_text keys c.loop-place.place c.key_at-kept.result.now c.key_at-kept.ensures c.loop-place.texts c.if-is_owned.texts _ c.loop-place.invariant (w.texts-is ∙ w.in_ok-push.ensures.ok) w.in_ok-key_text.ensures (sym c.is_owned.ensures ∙ w.if-is_owned.true)
      | else-is_owned w ↦
          kept_none owned key_text keys c.loop-place.place c.key_at-kept.result.now c.key_at-kept.ensures c.if-is_owned.texts (w.texts-is ∙ c.loop-place.invariant) (sym c.is_owned.ensures ∙ w.if-is_owned.false)
    ]

pub returns : goal.returns
returns c =
    c.loop-place.invariant ∙ kept_all (is_owned (option_copied c.args.owner)) key_text (map.values c.args.records.now.keys) c.loop-place.place c.key_count-place-end.result (c.key_count-place-end.ensures ∙ values_len c.args.records.now.keys) c.loop-place-test.false
