use Rattle.std.proofs.Common.{count_by, ap, ◌∙◌, arith}
use Rattle.es_bits.specs.Words.{bits_of}
use Rattle.es_bits.proofs.Kept.{count_held, count_held-le}
use Rattle.es_bits.proofs.selection.Bits.count.Goals as goal

pub count_words-requires : goal.count_words-requires
count_words-requires c =
    omega (arith, ap (λ ws. count_by (λ b. b) (bits_of ws)) c.deref.ensures.value, count_held-le c.self.inside.words.items c.self.inside.len c.self.invariant, c.self.invariant.short)

pub returns : goal.returns
returns c =
    c.count_words.ensures ∙ ap (λ ws. count_by (λ b. b) (bits_of ws)) c.deref.ensures.value
    ∙ count_held c.self.inside.words.items c.self.inside.len c.self.invariant ∙ ap (count_by (λ b. b)) c.self.view_is
