use Rattle.std.proofs.Common.{◌++◌, append-nil, sym, ap, ◌∙◌}
use Rattle.es_template.specs.Filling.{text_or_null, tag_text}
use Rattle.es_template.proofs.Values.{tag_text_Null}
use Rattle.es_template.proofs.filling.add_given.Goals as goal

pub returns-in-None : goal.returns-in-None
returns-in-None c =
    let out = c.args.out.now in
    sym (ap (λ o. out ++ tag_text (text_or_null o)) c.in-None.is ∙ ap (λ l. out ++ l) tag_text_Null ∙ append-nil out)
