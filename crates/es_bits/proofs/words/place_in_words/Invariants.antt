use Rattle.std.proofs.Common.{◌≡◌, ◌*◌, drop, slice_get}
use Rattle.es_bits.specs.Places.{true_places_from}
use Rattle.es_bits.specs.Words.{bits_of}
use Rattle.es_bits.proofs.words.place_in_words.Given as goal

-- the place is looked for in the words that are left
abbrev pub invariant-loop-at : goal.invariant-loop-at
invariant-loop-at l = slice_get (true_places_from (64 * l.at) (bits_of (drop l.at l.words))) l.left ≡ slice_get (true_places_from 0 (bits_of l.words)) l.k
