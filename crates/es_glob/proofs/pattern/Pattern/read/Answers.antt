use Rattle.std.proofs.Common.{◌≡◌, Some, true, sym, ap, ◌∙◌}
use Rattle.std.specs.Option.{option_map}
use Rattle.std.specs.Str.{chars}
use Rattle.es_glob.specs.Patterns.{marks_of}
use Rattle.es_glob.proofs.Forms.{has_form, no_form, no_marks, pattern_of}
use Rattle.es_glob.proofs.pattern.Pattern.read.Goals as goal

pub returns-then-not-has_form-clause-bad : goal.returns-then-not-has_form-clause-bad
returns-then-not-has_form-clause-bad c =
    λ _. no_form c.args.text.now (sym c.has_form.ensures ∙ c.if-not-has_form.true)

pub returns-in_ok-of-in-Some-clause-pattern : goal.returns-in_ok-of-in-Some-clause-pattern
returns-in_ok-of-in-Some-clause-pattern c =
    let bs = c.args.text.now in
    let form : has_form (chars bs) ≡ true = sym c.has_form.ensures ∙ c.if-not-has_form.false in
    let marks : marks_of (chars bs) ≡ Some c.in-Some.marks.items = sym c.in_ok-marks.ensures ∙ ap (option_map (λ v. v.items)) c.in-Some.is in
    pattern_of bs c.in-Some.marks.items form marks

pub invariant_of-result : goal.invariant_of-result
invariant_of-result c =
    let marks : marks_of (chars c.args.text.now) ≡ Some c.in-Some.marks.items = sym c.in_ok-marks.ensures ∙ ap (option_map (λ v. v.items)) c.in-Some.is in
    rw c.in_ok-of-in-Some.ensures (marks, returns-in_ok-of-in-Some-clause-pattern c)

pub returns-in-None-clause-bad : goal.returns-in-None-clause-bad
returns-in-None-clause-bad c =
    λ _. no_marks c.args.text.now (sym c.in_ok-marks.ensures ∙ ap (option_map (λ v. v.items)) c.in-None.is)
