use Rattle.std.proofs.Common.{◌≡◌, ◌++◌, not, map, take, drop}
use Rattle.es_bits.specs.Words.{bits_of}
use Rattle.es_bits.proofs.words.invert_words.Given as goal

-- the words that are done, and the other values of those that are left, make the whole
abbrev pub invariant-loop-word : goal.invariant-loop-word
invariant-loop-word l = bits_of (take l.word-index l.words) ++ map not (bits_of (drop l.word-index l.words)) ≡ map not (bits_of l.fn.words)
