use Rattle.std.proofs.Common.{◌≡◌, ◌<◌, slice_get, sym, ap, ◌∙◌, arith}
use Rattle.es_bits.specs.Places.{true_places}
use Rattle.es_bits.specs.Words.{word_bits}
use Rattle.es_bits.proofs.Found.{still_some, lowest_cleared, lowest_place, place_within_word}
use Rattle.es_bits.proofs.words.place_in_word.Goals as goal

pub overflow_sub-rest : goal.overflow_sub-rest
overflow_sub-rest c =
    let some : 0 < c.loop.rest = still_some c.args.word c.loop.rest c.loop.counter (omega arith) (omega arith) c.loop.invariant in omega arith

pub loop-preserved : goal.loop-preserved
loop-preserved c =
    let some : 0 < c.loop.rest = still_some c.args.word c.loop.rest c.loop.counter (omega arith) (omega arith) c.loop.invariant in
    lowest_cleared c.args.word c.loop.rest c.loop.counter (omega arith) some c.loop.invariant

pub returns-clause-within : goal.returns-clause-within
returns-clause-within c =
    let some : 0 < c.loop.rest = still_some c.args.word c.loop.rest c.loop.counter (omega arith) (omega arith) c.loop.invariant in
    place_within_word c.args.word c.loop.counter _ (lowest_place c.args.word c.loop.rest c.loop.counter (omega arith) some c.loop.invariant)

pub returns-clause-place : goal.returns-clause-place
returns-clause-place c =
    let some : 0 < c.loop.rest = still_some c.args.word c.loop.rest c.loop.counter (omega arith) (omega arith) c.loop.invariant in
    let all : c.loop.counter ≡ c.args.k = omega arith in
    ap (slice_get (true_places (word_bits c.args.word))) (sym all) ∙ lowest_place c.args.word c.loop.rest c.loop.counter (omega arith) some c.loop.invariant
