use Rattle.std.proofs.Common.{◌≡◌, [], sym, ap, ◌∙◌, length}
use Rattle.std.specs.Str.{chars}
use Rattle.std.proofs.lemmas.Bool.{false≢true, eq-eqb}
use Rattle.es_glob.proofs.Segments.{segment_suffices}
use Rattle.es_glob.proofs.matching.segment.Goals as goal
use Rattle.es_glob.proofs.matching.segment.Goals.{then-not-is_empty, else-not-is_empty}

pub returns-in-Some-clause-same : goal.returns-in-Some-clause-same
returns-in-Some-clause-same c =
    let e = c.in-Some.ensures in
    let r = c.in-Some.rest in
    let whole : r.marks.now ≡ [] → chars r.text.now ≡ [] =
    elim c.if-not-is_empty.branch [
      | then-not-is_empty w ↦ λ h. absurd (false≢true (w.if-not-is_empty.ensures ∙ eq-eqb (length r.marks.now) 0 (ap length h)))
      | else-not-is_empty w ↦ λ h. w.is_empty-else-not-is_empty.ensures.0 (sym w.value-is ∙ c.if-is_empty.true)
    ] in
    segment_suffices c.args.marks.now (chars c.args.text.now) r.marks.now (chars r.text.now) e.same e.later e.stops whole
