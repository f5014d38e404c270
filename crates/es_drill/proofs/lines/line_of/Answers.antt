use Rattle.std.proofs.Common.{ap, ◌∙◌, arith, option_map}
use Rattle.es_drill.specs.Keeping.{line_as}
use Rattle.es_drill.proofs.Cutting.{too_long, no_text, one_word, by_word}
use Rattle.es_drill.proofs.lines.line_of.Goals as goal

pub returns-then-bytes-gt-LONGEST-clause-line : goal.returns-then-bytes-gt-LONGEST-clause-line
returns-then-bytes-gt-LONGEST-clause-line c = too_long c.args.bytes.now (omega arith)

pub returns-in_default-clause-line : goal.returns-in_default-clause-line
returns-in_default-clause-line c = no_text c.args.bytes.now c.in_default.ensures.cases.0

pub returns-in_err-word-clause-line : goal.returns-in_err-word-clause-line
returns-in_err-word-clause-line c =
    ap (option_map line_as) c.from_residual.ensures ∙ one_word c.args.bytes.now c.in-Ok.text.now (omega arith) c.in-Ok.ensures.cases.0 c.in-Ok.ensures.cases.1 c.in_err-word.ensures

pub returns-clause-line : goal.returns-clause-line
returns-clause-line c =
    c.line_with.ensures.line
    ∙ by_word c.args.bytes.now c.in-Ok.text.now (omega arith) c.in-Ok.ensures.cases.0 c.in-Ok.ensures.cases.1 c.in_ok-word.word.now c.in_ok-word.rest.now c.in_ok-word.ensures
