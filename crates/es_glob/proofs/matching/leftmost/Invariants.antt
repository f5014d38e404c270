use Rattle.std.proofs.Common.{◌≡◌, length}
use Rattle.std.specs.Str.{chars, IsUtf8}
use Rattle.es_glob.specs.Patterns.{fits_marks, some_rest}
use Rattle.es_glob.proofs.matching.leftmost.Given as goal

-- the marks fit no part that begins before what is left
abbrev pub invariant-loop-behind : goal.invariant-loop-behind
invariant-loop-behind l = record {
  same : some_rest (fits_marks l.marks) (chars l.text) ≡ some_rest (fits_marks l.marks) (chars l.rest);
  utf8 : IsUtf8 l.rest;
}

abbrev pub decreases-loop-behind : goal.decreases-loop-behind
decreases-loop-behind l = length l.rest
