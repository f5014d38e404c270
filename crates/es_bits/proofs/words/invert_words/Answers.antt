use Rattle.std.proofs.Common.{◌^◌, ◌<◌, ◌++◌, not, map, get_or, sym, ap₂, ◌∙◌, append-nil, arith}
use Rattle.std.proofs.lemmas.List.{take_all, drop_all}
use Rattle.es_bits.specs.Words.{bits_of}
use Rattle.es_bits.proofs.Found.{inverted_more}
use Rattle.es_bits.proofs.words.invert_words.Goals as goal

pub loop-word-preserved : goal.loop-word-preserved
loop-word-preserved c =
    let fits : get_or c.loop-word.words c.loop-word.word-index 0 < 2 ^ 64 = omega arith in
    inverted_more c.loop-word.words c.loop-word.word-index (omega arith) fits ∙ c.loop-word.invariant

pub returns : goal.returns
returns c =
    let ws = c.loop-word.words in
    let i = c.loop-word.word-index in
    sym (ap₂ (λ front back. bits_of front ++ map not (bits_of back)) (take_all i ws (omega arith)) (drop_all i ws (omega arith)) ∙ append-nil (bits_of ws)) ∙ c.loop-word.invariant
