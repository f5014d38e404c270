use Rattle.es_drill.specs.Keeping.{authorization_as}
use Rattle.es_drill.proofs.Cutting.{all_parts}
use Rattle.es_drill.proofs.lines.call_in.Goals as goal

pub returns-clause-line : goal.returns-clause-line
returns-clause-line c =
    all_parts c.args.text.now c.in_ok-name.name.now c.in_ok-name.rest.now c.in_ok-method.method.now c.in_ok-method.rest.now c.in_ok-target.target.now c.in_ok-target.rest.now
    c.first_word.result.0.now c.first_word.result.1.now c.in_ok-actor.actor (authorization_as c.in_ok-authorization.authorization)
    c.in_ok-name.ensures c.in_ok-actor.ensures.actor c.in_ok-method.ensures c.if-not-is_method.ensures c.in_ok-target.ensures c.if-is_empty.ensures
    c.first_word.ensures.word c.first_word.ensures.rest c.in_ok-authorization.ensures
