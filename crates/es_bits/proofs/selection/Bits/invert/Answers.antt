use Rattle.std.proofs.Common.{not, length, map, take, ap, ◌∙◌, arith}
use Rattle.std.specs.Vec.{with_items}
use Rattle.std.proofs.lemmas.List.{with_items_is, take-map}
use Rattle.es_bits.specs.Words.{bits_of}
use Rattle.es_bits.proofs.Held.{length-bits_of}
use Rattle.es_bits.proofs.Kept.{cleared_tidy}
use Rattle.es_bits.proofs.selection.Bits.invert.Goals as goal

pub returns : goal.returns
returns c =
    let ws = c.self.inside.words in
    let len = c.self.inside.len in
    let vs = c.invert_words.new.words in
    let us = c.clear_past.new.words in
    let n = length c.deref_mut-2.result.now in
    let inverted = with_items_is ws vs (omega arith) in
    let kept = with_items_is (with_items ws vs) us (omega arith) in
    let bits = ap bits_of (c.deref_mut-2.ensures.value ∙ inverted) ∙ c.invert_words.ensures ∙ ap (λ xs. map not (bits_of xs)) c.deref_mut.ensures.value in
    ap (λ xs. take len (bits_of xs)) kept
    ∙ (cleared_tidy us (bits_of c.deref_mut-2.result.now) n len c.self.invariant.short c.clear_past.auto.words (omega arith) (length-bits_of c.deref_mut-2.result.now) c.clear_past.ensures).1
    ∙ ap (take len) bits ∙ take-map not len (bits_of ws.items) ∙ ap (map not) c.self.view_is
