use Rattle.std.proofs.Common.{◌≡◌, ◌^◌, ◌<◌, count_ones, sym, ◌∙◌, arith, rules}
use Rattle.std.specs.List.{sum_by}
use Rattle.es_bits.proofs.Held.{count-bits_of}
use Rattle.es_bits.proofs.words.count_words.Goals as goal

pub sum-requires-clause-fits : goal.sum-requires-clause-fits
sum-requires-clause-fits c =
    let same = count-bits_of c.args.words.now c.type_inv.words in
    let bound : sum_by count_ones c.args.words.now < 2 ^ 64 = omega (arith, same) in
    search (rules, bound)

pub returns : goal.returns
returns c =
    let total : c.sum.result ≡ sum_by count_ones c.args.words.now = search rules in
    total ∙ sym (count-bits_of c.args.words.now c.type_inv.words)
