use Rattle.std.proofs.Common.{◌≡◌, length}
use denote.Text.{Utf8}
use denote.Shadow.{shadow}
use Rattle.es_template.specs.Tags.{spaces_dropped}
use Rattle.es_template.proofs.marks.without_first_spaces.Given as goal

-- what is left has the same bytes behind its spaces
abbrev pub invariant-loop-behind : goal.invariant-loop-behind
invariant-loop-behind l = shadow (Utf8 l.rest) × (spaces_dropped l.rest ≡ spaces_dropped l.text)

abbrev pub decreases-loop-behind : goal.decreases-loop-behind
decreases-loop-behind l = length l.rest
