use Rattle.std.proofs.Common.{◌≡◌, ◌≤◌, length, IsTrue}
use Rattle.std.specs.Str.{chars}
use Rattle.es_glob.specs.Patterns.{fits_marks, some_rest}
use Rattle.es_glob.proofs.matching.front.Given as goal

-- the marks fit where those that are left fit what is left of the text; where they fit a later part, those that are left fit a later part
abbrev pub invariant-loop-mark : goal.invariant-loop-mark
invariant-loop-mark l = record {
  same : fits_marks l.marks (chars l.text) ≡ fits_marks l.rest.marks.now (chars l.rest.text.now);
  later : IsTrue (some_rest (fits_marks l.marks) (chars l.text)) → IsTrue (some_rest (fits_marks l.rest.marks.now) (chars l.rest.text.now));
  fewer : length l.rest.marks.now ≤ length l.marks;
}

abbrev pub decreases-loop-mark : goal.decreases-loop-mark
decreases-loop-mark l = length l.rest.marks.now
