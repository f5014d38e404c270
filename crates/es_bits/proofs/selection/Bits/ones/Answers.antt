use Rattle.std.proofs.Common.{◌≡◌, ◌*◌, ◌-◌, ◌^◌, ◌++◌, true, false, length, replicate, take, refl, sym, ap, ap₂, ◌∙◌, subst, arith}
use Rattle.std.specs.Int.{div_ceil}
use Rattle.std.proofs.lemmas.List.{with_items_is, length-replicate, take-replicate}
use Rattle.es_bits.specs.Words.{bits_of, IsTidy}
use Rattle.es_bits.proofs.Word.{word_bits-ones}
use Rattle.es_bits.proofs.Held.{bits_of-replicate}
use Rattle.es_bits.proofs.Kept.{cleared_tidy}
use Rattle.es_bits.proofs.selection.Bits.ones.Goals as goal

pub invariant_of-result : goal.invariant_of-result
invariant_of-result c =
    let len = c.args.len in
    let n = div_ceil len 64 in
    let us = c.clear_past.new.words in
    let before = c.deref_mut.ensures.value ∙ c.in_ok-words.ensures.items_if_clones_equal (λ y e. e) ∙ ap (λ m. replicate m (2 ^ 64 - 1)) c.div_ceil.ensures in
    let words : length c.deref_mut.result.now ≡ n = ap length before ∙ length-replicate n (2 ^ 64 - 1) in
    let full = ap bits_of before ∙ bits_of-replicate n (2 ^ 64 - 1) true word_bits-ones in
    let bits = c.clear_past.ensures ∙ ap₂ (λ xs m. take len xs ++ replicate (64 * m - len) false) full words in
    let kept = with_items_is c.in_ok-words.words us (omega arith) in
    subst (λ ws. IsTidy ws len) (sym kept)
    (cleared_tidy us (replicate (64 * n) true) n len (omega arith) (c.clear_past.auto.words ∙ words) refl (length-replicate (64 * n) true) bits).0

pub returns : goal.returns
returns c =
    let len = c.args.len in
    let n = div_ceil len 64 in
    let us = c.clear_past.new.words in
    let before = c.deref_mut.ensures.value ∙ c.in_ok-words.ensures.items_if_clones_equal (λ y e. e) ∙ ap (λ m. replicate m (2 ^ 64 - 1)) c.div_ceil.ensures in
    let words : length c.deref_mut.result.now ≡ n = ap length before ∙ length-replicate n (2 ^ 64 - 1) in
    let full = ap bits_of before ∙ bits_of-replicate n (2 ^ 64 - 1) true word_bits-ones in
    let bits = c.clear_past.ensures ∙ ap₂ (λ xs m. take len xs ++ replicate (64 * m - len) false) full words in
    let kept = with_items_is c.in_ok-words.words us (omega arith) in
    ap (λ ws. take len (bits_of ws)) kept
    ∙ (cleared_tidy us (replicate (64 * n) true) n len (omega arith) (c.clear_past.auto.words ∙ words) refl (length-replicate (64 * n) true) bits).1
    ∙ take-replicate len (64 * n) true (omega arith)
