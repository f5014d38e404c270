use Rattle.std.proofs.Common.{◌≡◌, ◌++◌, drop, sym, ap, ap₂, ◌∙◌, append-nil, arith}
use Rattle.std.specs.Int.RustNames.{bit_or}
use Rattle.std.specs.Simd.Lanes.{zip2}
use Rattle.std.proofs.lemmas.List.{take_all, drop_all}
use Rattle.es_bits.specs.Words.{bits_of}
use Rattle.es_bits.proofs.Held.{bits_of-or}
use Rattle.es_bits.proofs.words.or_words.Goals as goal

pub returns : goal.returns
returns c =
    let ws = c.loop-at.words in
    let vs = c.args.others.now in
    let whole : ws ≡ zip2 bit_or c.args.words.now vs =
    sym (ap₂ (λ front back. front ++ zip2 bit_or back (drop c.loop-at.at vs)) (take_all c.loop-at.at ws (omega arith)) (drop_all c.loop-at.at ws (omega arith)) ∙ append-nil ws) ∙ c.loop-at.invariant in
    ap bits_of whole ∙ bits_of-or c.args.words.now vs c.requires
