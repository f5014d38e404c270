use Rattle.std.proofs.Common.{◌≡◌, ◌-◌, ◌*◌, ◌/◌, ◌%◌, ◌^◌, get_or, ap, ◌∙◌, arith}
use Rattle.std.specs.Int.RustNames.{bit_and}
use Rattle.std.proofs.lemmas.Nat.{one_shl}
use Rattle.es_bits.specs.Words.{word_bits}
use Rattle.es_bits.proofs.Word.{word_bits-masked}
use Rattle.es_bits.proofs.Kept.{cleared, nothing_past}
use Rattle.es_bits.proofs.words.clear_past.Goals as goal

pub returns-then-used-gt0 : goal.returns-then-used-gt0
returns-then-used-gt0 c =
    let ws = c.args.words.now in
    let len = c.args.len in
    let w = get_or ws (len / 64) 0 in
    let u = len % 64 in
    let mask : 1 * 2 ^ u % 2 ^ 64 ≡ 2 ^ u = one_shl u 64 (omega arith) in
    cleared ws len (bit_and w (1 * 2 ^ u % 2 ^ 64 - 1)) c.requires (omega arith)
    (ap (λ m. word_bits (bit_and w (m - 1))) mask ∙ word_bits-masked u w (omega arith))

pub returns-else-used-gt0 : goal.returns-else-used-gt0
returns-else-used-gt0 c = nothing_past c.args.words.now c.args.len c.requires (omega arith)
