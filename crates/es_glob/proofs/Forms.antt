-- What makes a text a pattern.
use Rattle.std.proofs.Common.{◌≡◌, ℕ, List, Bool, true, false, ◌&&◌, nat_le, length, IsTrue, Some, None, is_some, ap}
use Rattle.std.proofs.lemmas.Bool.{and_left, and_right, and_from}
use Rattle.std.specs.Str.{chars}
use Rattle.es_glob.specs.declared.mark.Mark.{Mark}
use Rattle.es_glob.specs.Patterns.{can_begin, max_characters, marks_of, is_pattern}

-- the characters of a pattern, but for a lone backslash at the end
abbrev pub has_form : List ℕ → Bool
has_form cs = can_begin cs && nat_le (length cs) max_characters

pub no_form : (bs : List ℕ) → has_form (chars bs) ≡ false → is_pattern bs ≡ false
unfolding is_pattern
no_form bs h = and_left (has_form (chars bs)) (is_some (marks_of (chars bs))) h

pub no_marks : (bs : List ℕ) → marks_of (chars bs) ≡ None → is_pattern bs ≡ false
unfolding is_pattern
no_marks bs h = and_right (has_form (chars bs)) (is_some (marks_of (chars bs))) (ap is_some h)

pub pattern_of : (bs : List ℕ) (ms : List Mark) → has_form (chars bs) ≡ true → marks_of (chars bs) ≡ Some ms → IsTrue (is_pattern bs)
unfolding is_pattern
pattern_of bs ms h e = and_from (has_form (chars bs)) (is_some (marks_of (chars bs))) h (ap is_some e)
