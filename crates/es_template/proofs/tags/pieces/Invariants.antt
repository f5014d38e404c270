use Rattle.std.proofs.Common.{◌≡◌, ◌++◌, option_map, option_copied}
use Rattle.es_template.specs.Marks.{parts, parts_left}
use Rattle.es_template.specs.Tags.{opening, all_tag_pieces, pieces_of_parts}
use Rattle.es_template.proofs.Looping.{bytes_left}
use Rattle.es_template.proofs.tags.pieces.Given as goal

-- what was found, with what is left, is the whole
abbrev pub invariant-loop-rest : goal.invariant-loop-rest
invariant-loop-rest l = option_map (λ more. l.found ++ more) (all_tag_pieces (parts_left opening (option_copied l.rest))) ≡ pieces_of_parts (parts opening l.text)

abbrev pub decreases-loop-rest : goal.decreases-loop-rest
decreases-loop-rest l = bytes_left (option_copied l.rest)
