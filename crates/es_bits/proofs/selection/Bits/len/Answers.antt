use Rattle.std.proofs.Common.{length, sym, ap, ◌∙◌}
use Rattle.es_bits.proofs.Kept.{length-held}
use Rattle.es_bits.proofs.selection.Bits.len.Goals as goal

pub returns : goal.returns
returns c = sym (length-held c.self.inside.words.items c.self.inside.len c.self.invariant) ∙ ap length c.self.view_is
