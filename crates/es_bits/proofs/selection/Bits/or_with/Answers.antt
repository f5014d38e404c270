use Rattle.std.proofs.Common.{◌||◌, length, take, refl, sym, ap, ap₂, ◌∙◌, subst, arith}
use Rattle.std.proofs.lemmas.List.{with_items_is}
use Rattle.es_bits.specs.Pairs.{either}
use Rattle.es_bits.specs.Words.{bits_of, IsTidy}
use Rattle.es_bits.proofs.Kept.{pairs_tidy, words_alike}
use Rattle.es_bits.proofs.selection.Bits.or_with.Goals as goal

pub or_words-requires : goal.or_words-requires
or_words-requires c =
    let alike = ap length c.self.view_is ∙ c.requires ∙ sym (ap length c.other.view_is) in
    ap length c.deref_mut.ensures.value ∙ words_alike _ _ _ _ c.self.invariant c.other.invariant alike ∙ sym (ap length c.deref.ensures.value)

pub invariant_of-self : goal.invariant_of-self
invariant_of-self c =
    let ws = c.self.inside.words in
    let us = c.or_words.new.words in
    let len = c.self.inside.len in
    let alike = ap length c.self.view_is ∙ c.requires ∙ sym (ap length c.other.view_is) in
    let pairs = c.or_words.ensures ∙ ap₂ (λ xs ys. either (bits_of xs) (bits_of ys)) c.deref_mut.ensures.value c.deref.ensures.value in
    let kept = with_items_is ws us (omega arith) in
    subst (λ xs. IsTidy xs len) (sym kept)
    (pairs_tidy (λ x y. x || y) ws.items c.other.inside.words.items us len c.other.inside.len refl c.self.invariant c.other.invariant alike (c.or_words.auto.words ∙ ap length c.deref_mut.ensures.value) pairs).0

pub returns : goal.returns
returns c =
    let ws = c.self.inside.words in
    let us = c.or_words.new.words in
    let len = c.self.inside.len in
    let alike = ap length c.self.view_is ∙ c.requires ∙ sym (ap length c.other.view_is) in
    let pairs = c.or_words.ensures ∙ ap₂ (λ xs ys. either (bits_of xs) (bits_of ys)) c.deref_mut.ensures.value c.deref.ensures.value in
    let kept = with_items_is ws us (omega arith) in
    ap (λ xs. take len (bits_of xs)) kept
    ∙ (pairs_tidy (λ x y. x || y) ws.items c.other.inside.words.items us len c.other.inside.len refl c.self.invariant c.other.invariant alike (c.or_words.auto.words ∙ ap length c.deref_mut.ensures.value) pairs).1
    ∙ ap₂ either c.self.view_is c.other.view_is
