use Rattle.std.proofs.Common.{◌≡◌, Some, ◌↔◌, sym, ap, ◌∙◌, IsTrue}
use Rattle.std.specs.Str.{chars}
use Rattle.es_glob.specs.Patterns.{fits, fits_marks, marks_of, FitsText}
use Rattle.es_glob.proofs.Laws.{fits-marks, fits-FitsText}
use Rattle.es_glob.proofs.pattern.Pattern.matches.Goals as goal

pub returns-clause-value : goal.returns-clause-value
returns-clause-value c =
    let pattern = c.args.self.now in
    let text = c.args.text.now in
    let ms = c.self.inside.marks.items in
    let marks : marks_of (chars pattern) ≡ Some ms = rw (← c.self.view_is) c.self.invariant.0 in
    c.fits_marks.ensures ∙ ap (λ xs. fits_marks xs (chars text)) c.as_slice.ensures.value ∙ sym (fits-marks pattern text ms marks)

pub returns-clause-relation : goal.returns-clause-relation
returns-clause-relation c =
    let pattern = c.args.self.now in
    let text = c.args.text.now in
    let value : c.fits_marks.result ≡ fits pattern text = returns-clause-value c in
    let law : IsTrue (fits pattern text) ↔ FitsText pattern text = fits-FitsText pattern text in
    (λ h. law.0 (sym value ∙ h), λ h. value ∙ law.1 h)
