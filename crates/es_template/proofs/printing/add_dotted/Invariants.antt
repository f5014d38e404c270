use Rattle.std.proofs.Common.{◌≡◌, ◌++◌, drop, codes}
use Rattle.es_template.specs.Marks.{behind_marks}
use Rattle.es_template.proofs.printing.add_dotted.Given as goal

-- what was written, with what is left to write, is the whole
abbrev pub invariant-loop-name : goal.invariant-loop-name
invariant-loop-name l = l.out ++ behind_marks (codes ".") (drop l.name-index l.names) ≡ l.initial.out ++ behind_marks (codes ".") l.names
