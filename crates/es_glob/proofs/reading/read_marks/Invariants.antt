use Rattle.std.proofs.Common.{◌≡◌, ◌++◌, length}
use Rattle.std.specs.Option.{option_map}
use Rattle.std.specs.Str.{chars, IsUtf8}
use Rattle.es_glob.specs.Patterns.{marks_of}
use Rattle.es_glob.proofs.reading.read_marks.Given as goal

-- what was read, with what is left, is the whole
abbrev pub invariant-loop-c : goal.invariant-loop-c
invariant-loop-c l = record {
  whole : option_map (λ marks. l.marks.items ++ marks) (marks_of (chars l.rest)) ≡ marks_of (chars l.text);
  utf8 : IsUtf8 l.rest;
}

abbrev pub decreases-loop-c : goal.decreases-loop-c
decreases-loop-c l = length l.rest
