use Rattle.std.proofs.Common.{◌≡◌, length, reverse}
use denote.Text.{Utf8}
use denote.Shadow.{shadow}
use Rattle.es_template.specs.Tags.{spaces_dropped}
use Rattle.es_template.proofs.marks.without_last_spaces.Given as goal

-- what is left has the same bytes before its spaces
abbrev pub invariant-loop-before : goal.invariant-loop-before
invariant-loop-before l = shadow (Utf8 l.rest) × (spaces_dropped (reverse l.rest) ≡ spaces_dropped (reverse l.text))

abbrev pub decreases-loop-before : goal.decreases-loop-before
decreases-loop-before l = length l.rest
