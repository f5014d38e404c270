use Rattle.std.proofs.Common.{◌==◌, length, rules, tests}
use Rattle.std.specs.List.{position_or_len}
use Rattle.std.proofs.lemmas.Iterator.{YieldsList-from_slice}
use Rattle.std.proofs.lemmas.Iterator.Search.{position_from_yields_List}
use Rattle.es_drill.proofs.Feeding.{place_or_end, feed_within}
use Rattle.es_drill.proofs.reading.feed_in.Goals as goal

pub returns : goal.returns
returns c =
    let bytes = c.args.bytes.now in
    let found = position_from_yields_List (λ b. b == 10) _ _ c.position.result c.position.ensures.ran (YieldsList-from_slice bytes cc) (λ x b q k. search (rules, tests)) in
    let place = place_or_end (position_or_len (λ b. b == 10) bytes) (length bytes) c.position.result found (feed_within bytes) in
    cc
