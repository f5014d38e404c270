use Rattle.std.proofs.Common.{◌≡◌, ◌++◌, option_copied}
use Rattle.es_template.specs.Marks.{parts, parts_left}
use Rattle.es_template.specs.Tags.{json_opening}
use Rattle.es_template.specs.Sources.{written_parts, quoted_in_parts}
use Rattle.es_template.proofs.Looping.{bytes_left}
use Rattle.es_template.proofs.sources.with_quoted_tags.Given as goal

-- what was written, with what is left to write, is the whole
abbrev pub invariant-loop-rest : goal.invariant-loop-rest
invariant-loop-rest l = l.out ++ written_parts l.standing (parts_left json_opening (option_copied l.rest)) ≡ quoted_in_parts (parts json_opening l.text)

abbrev pub decreases-loop-rest : goal.decreases-loop-rest
decreases-loop-rest l = bytes_left (option_copied l.rest)
