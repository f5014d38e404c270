use Rattle.std.proofs.Common.{◌^◌, ◌<◌, get_or, sym, ◌∙◌, arith}
use Rattle.es_bits.proofs.Found.{found_here, found_later, found_nowhere}
use Rattle.es_bits.proofs.words.place_in_words.Goals as goal

pub returns-then-left-count : goal.returns-then-left-count
returns-then-left-count c =
    let ws = c.args.words.now in
    let fits : get_or ws c.loop-at.at 0 < 2 ^ 64 = omega arith in
    sym (found_here ws c.loop-at.at c.loop-at.left c.place_in_word.result (omega arith) fits (omega arith) c.place_in_word.ensures.place) ∙ c.loop-at.invariant

pub loop-at-preserved : goal.loop-at-preserved
loop-at-preserved c =
    let ws = c.args.words.now in
    let fits : get_or ws c.loop-at.at 0 < 2 ^ 64 = omega arith in
    found_later ws c.loop-at.at c.loop-at.left (omega arith) fits (omega arith) ∙ c.loop-at.invariant

pub returns : goal.returns
returns c = sym (found_nowhere c.args.words.now c.loop-at.at c.loop-at.left (omega arith)) ∙ c.loop-at.invariant
