use Rattle.std.proofs.Common.{◌≡◌, drop}
use Rattle.es_bits.specs.Places.{true_places_from}
use Rattle.es_bits.specs.Words.{word_bits}
use Rattle.es_bits.proofs.words.place_in_word.Given as goal

-- the first places are gone
abbrev pub invariant-loop : goal.invariant-loop
invariant-loop l = true_places_from 0 (word_bits l.rest) ≡ drop l.counter (true_places_from 0 (word_bits l.word))
