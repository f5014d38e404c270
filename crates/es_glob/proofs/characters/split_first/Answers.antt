use Rattle.std.proofs.Common.{ap, ◌∙◌}
use Rattle.std.specs.Str.{chars}
use Rattle.std.proofs.lemmas.List.{nil_from_length}
use Rattle.std.proofs.lemmas.Str.{chars-nil, chars_past_char}
use Rattle.es_glob.proofs.characters.split_first.Goals as goal

pub returns-in-Some-clause-parts : goal.returns-in-Some-clause-parts
returns-in-Some-clause-parts c =
    chars_past_char c.args.text.now c.as_str.result.now c.in-Some.first c.utf8.text (cc (c.chars-rest.ensures.rest, c.in-Some.ensures.steps.0, c.as_str.ensures))

pub returns-in-None-clause-parts : goal.returns-in-None-clause-parts
returns-in-None-clause-parts c =
    let empty = ap chars (nil_from_length c.args.text.now (let h = c.in-None.ensures.steps.0.0 in cc (c.chars-rest.ensures.rest, h))) in
    empty ∙ chars-nil
