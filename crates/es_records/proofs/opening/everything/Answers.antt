use Rattle.std.proofs.Common.{Err, sym, ap, ◌∙◌}
use Rattle.std.proofs.lemmas.Bool.{false≢true}
use Rattle.es_records.proofs.Star.{star_pattern}
use Rattle.es_records.proofs.opening.everything.Goals as goal

pub unreachable-requires : goal.unreachable-requires
unreachable-requires c = false≢true (sym (c.read.ensures.bad (c.in-Err-BadPattern.is ∙ ap Err c.in-Err-BadPattern.field-0-is)) ∙ star_pattern)
