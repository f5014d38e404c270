use Rattle.std.proofs.Common.{◌≡◌, ◌/◌, ◌%◌, ◌^◌, ◌<◌, length, get_or, eqb, slice_get, Some, sym, ap, ◌∙◌, arith}
use Rattle.std.specs.Int.RustNames.{bit_and}
use Rattle.std.proofs.lemmas.List.{get_or_read}
use Rattle.std.proofs.lemmas.Nat.Bits.{shr_and_one}
use Rattle.es_bits.proofs.Kept.{length-held, get_held}
use Rattle.es_bits.proofs.selection.Bits.get.Goals as goal

pub returns : goal.returns
returns c =
    let ws = c.self.inside.words.items in
    let len = c.self.inside.len in
    let at = c.args.at in
    let within : at < len = omega (arith, length-held ws len c.self.invariant, ap length c.self.view_is) in
    let word : c.index.result.now ≡ get_or ws (at / 64) 0 = get_or_read ws (at / 64) c.index.result.now (omega (arith, c.self.invariant.enough)) c.index.ensures 0 in
    ap (λ bits. slice_get bits at) (sym c.self.view_is) ∙ get_held ws len at c.self.invariant within
    ∙ sym (ap (λ w. Some (eqb (bit_and (w / 2 ^ (at % 64)) 1) 1)) word ∙ ap (λ d. Some (eqb d 1)) (shr_and_one (get_or ws (at / 64) 0) (at % 64)))
