use Rattle.std.proofs.Common.{slice_get, ap, ◌∙◌, arith}
use Rattle.es_bits.specs.Places.{true_places}
use Rattle.es_bits.specs.Words.{bits_of}
use Rattle.es_bits.proofs.Kept.{places_held}
use Rattle.es_bits.proofs.selection.Bits.member.Goals as goal

pub place_in_words-requires : goal.place_in_words-requires
place_in_words-requires c = omega (arith, c.self.invariant.enough, c.self.invariant.short)

pub returns : goal.returns
returns c =
    c.place_in_words.ensures
    ∙ ap (λ ps. slice_get ps c.args.k)
    (ap (λ ws. true_places (bits_of ws)) c.deref.ensures.value ∙ places_held c.self.inside.words.items c.self.inside.len c.self.invariant ∙ ap true_places c.self.view_is)
