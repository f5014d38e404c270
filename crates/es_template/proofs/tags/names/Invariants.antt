use Rattle.std.proofs.Common.{◌≡◌, ◌++◌, codes, option_map, option_copied}
use Rattle.es_template.specs.Marks.{parts_left}
use Rattle.es_template.specs.Tags.{checked_names, names_of}
use Rattle.es_template.proofs.Looping.{bytes_left}
use Rattle.es_template.proofs.tags.names.Given as goal

-- what was found, with what is left, is the whole
abbrev pub invariant-loop-rest : goal.invariant-loop-rest
invariant-loop-rest l = option_map (λ names. l.found ++ names) (checked_names (parts_left (codes ".") (option_copied l.rest))) ≡ names_of l.path

abbrev pub decreases-loop-rest : goal.decreases-loop-rest
decreases-loop-rest l = bytes_left (option_copied l.rest)
