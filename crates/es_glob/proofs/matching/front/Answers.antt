use Rattle.std.proofs.Common.{◌≡◌, ◌∷◌, true, length, sym, ap, ◌∙◌, arith}
use Rattle.std.specs.Str.{chars}
use Rattle.es_glob.specs.Patterns.{takes}
use Rattle.es_glob.proofs.Segments.{same_behind, later_behind_taken}
use Rattle.es_glob.proofs.matching.front.Goals as goal

pub loop-mark-preserved : goal.loop-mark-preserved
loop-mark-preserved c =
    let i = c.loop-mark.invariant in
    let m = c.in-Some.mark.now in
    let ms = c.in-Some.marks.now in
    let d = c.in-Some-split_first.c in
    let ds = chars c.in-Some-split_first.text.now in
    let marks_are : c.loop-mark.rest.marks.now ≡ m ∷ ms = c.in-Some.ensures.cases.0 in
    let text_is : chars c.loop-mark.rest.text.now ≡ d ∷ ds = c.in-Some-split_first.ensures.parts in
    let took : takes m d ≡ true = sym c.takes.ensures ∙ c.if-takes.true in
    record {
      same = i.same ∙ rw (marks_are, text_is) (same_behind m ms d ds took);
      later = λ h. later_behind_taken m ms d ds took (rw (marks_are, text_is) at (i.later h));
      fewer = let fewer : length c.loop-mark.rest.marks.now ≡ length (m ∷ ms) = ap length marks_are in omega arith;
    }
