use Rattle.std.proofs.Common.{◌≡◌, ◌*◌, ◌/◌, ◌%◌, ◌^◌, ◌<◌, true, length, get_or, set, ap, ap₂, ◌∙◌, arith}
use Rattle.std.specs.Int.RustNames.{bit_or}
use Rattle.std.proofs.lemmas.List.{get_or_read}
use Rattle.std.proofs.lemmas.Nat.{one_shl}
use Rattle.es_bits.specs.Words.{word_bits}
use Rattle.es_bits.proofs.Word.{word_bits-set}
use Rattle.es_bits.proofs.Kept.{length-held, set_tidy}
use Rattle.es_bits.proofs.selection.Bits.set.Goals as goal

pub invariant_of-self : goal.invariant_of-self
invariant_of-self c =
    let ws = c.self.inside.words.items in
    let len = c.self.inside.len in
    let at = c.args.at in
    let within : at < len = omega (arith, length-held ws len c.self.invariant, ap length c.self.view_is) in
    let word : c.index_mut.result.now ≡ get_or ws (at / 64) 0 = get_or_read ws (at / 64) c.index_mut.result.now (omega (arith, c.self.invariant.enough)) c.index_mut.ensures.value 0 in
    let bit : word_bits (bit_or c.index_mut.result.now (1 * 2 ^ (at % 64) % 2 ^ 64)) ≡ set (word_bits (get_or ws (at / 64) 0)) (at % 64) true =
    ap₂ (λ w m. word_bits (bit_or w m)) word (one_shl (at % 64) 64 (omega arith)) ∙ word_bits-set (at % 64) (get_or ws (at / 64) 0) (omega arith) in
    (set_tidy ws len at (bit_or c.index_mut.result.now (1 * 2 ^ (at % 64) % 2 ^ 64)) c.self.invariant within bit).0

pub returns : goal.returns
returns c =
    let ws = c.self.inside.words.items in
    let len = c.self.inside.len in
    let at = c.args.at in
    let within : at < len = omega (arith, length-held ws len c.self.invariant, ap length c.self.view_is) in
    let word : c.index_mut.result.now ≡ get_or ws (at / 64) 0 = get_or_read ws (at / 64) c.index_mut.result.now (omega (arith, c.self.invariant.enough)) c.index_mut.ensures.value 0 in
    let bit : word_bits (bit_or c.index_mut.result.now (1 * 2 ^ (at % 64) % 2 ^ 64)) ≡ set (word_bits (get_or ws (at / 64) 0)) (at % 64) true =
    ap₂ (λ w m. word_bits (bit_or w m)) word (one_shl (at % 64) 64 (omega arith)) ∙ word_bits-set (at % 64) (get_or ws (at / 64) 0) (omega arith) in
    (set_tidy ws len at (bit_or c.index_mut.result.now (1 * 2 ^ (at % 64) % 2 ^ 64)) c.self.invariant within bit).1 ∙ ap (λ bits. set bits at true) c.self.view_is
