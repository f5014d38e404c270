use Rattle.std.proofs.Common.{◌∙◌, ap, sym, reverse}
use Rattle.std.proofs.lemmas.List.{reverse-reverse}
use Rattle.httparse.specs.Grammar.{trim_ows}
use Rattle.es_wire.proofs.fields.trimmed.Goals as goal

pub returns : goal.returns
unfolding trim_ows
returns c =
    let back = rw c.trimmed_start.ensures at c.trimmed_end.ensures in
    sym (reverse-reverse _) ∙ ap reverse back
