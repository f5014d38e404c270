use Rattle.std.proofs.Common.{◌≡◌, ◌++◌, take, drop}
use Rattle.std.specs.Int.RustNames.{bit_and}
use Rattle.std.specs.Simd.Lanes.{zip2}
use Rattle.es_bits.proofs.words.and_words.Given as goal

-- the words that are done, and those that are left with the others, make the whole
abbrev pub invariant-loop-at : goal.invariant-loop-at
invariant-loop-at l = take l.at l.words ++ zip2 bit_and (drop l.at l.words) (drop l.at l.others) ≡ zip2 bit_and l.fn.words l.others
