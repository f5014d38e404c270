use Rattle.std.proofs.Common.{◌≡◌, length, IsTrue}
use Rattle.std.specs.Str.{chars}
use Rattle.es_glob.specs.Patterns.{fits_marks, is_run_next}
use Rattle.es_glob.proofs.matching.fits_marks.Given as goal

-- the marks fit where those that are left fit what is left of the text
abbrev pub invariant-loop-run : goal.invariant-loop-run
invariant-loop-run l = record {
  same : fits_marks l.marks (chars l.text) ≡ fits_marks l.rest.marks.now (chars l.rest.text.now);
  stops : IsTrue (is_run_next l.rest.marks.now);
}

abbrev pub decreases-loop-run : goal.decreases-loop-run
decreases-loop-run l = length l.rest.marks.now
