use Rattle.std.proofs.Common.{◌++◌, codes, ap, ◌∙◌}
use Rattle.std.specs.Fmt.{styled_decimal}
use Rattle.es_keys.proofs.Ids.{printed}
use Rattle.es_keys.proofs.keys.id_of.Goals as goal

pub returns : goal.returns
returns c =
    c.from_string.ensures ∙ c.in_ok-format.ensures.ok
    ∙ ap (λ spec. codes "key-" ++ styled_decimal spec c.args.place) c.laid_out.ensures
    ∙ printed c.args.place
