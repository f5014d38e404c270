use Rattle.std.proofs.Common.{false, replicate, refl, ap, ◌∙◌, subst, take, sym, arith}
use Rattle.es_bits.specs.Words.{bits_of, IsTidy}
use Rattle.es_bits.proofs.Word.{word_bits-zero}
use Rattle.es_bits.proofs.Kept.{repeated_tidy}
use Rattle.es_bits.proofs.selection.Bits.zeros.Goals as goal

pub invariant_of-result : goal.invariant_of-result
invariant_of-result c =
    let items = c.in_ok-words.ensures.items_if_clones_equal (λ y e. e) ∙ ap (λ n. replicate n 0) c.div_ceil.ensures in
    subst (λ ws. IsTidy ws c.args.len) (sym items) (repeated_tidy c.args.len 0 false (omega arith) word_bits-zero refl).0

pub returns : goal.returns
returns c =
    let items = c.in_ok-words.ensures.items_if_clones_equal (λ y e. e) ∙ ap (λ n. replicate n 0) c.div_ceil.ensures in
    ap (λ ws. take c.args.len (bits_of ws)) items ∙ (repeated_tidy c.args.len 0 false (omega arith) word_bits-zero refl).1
