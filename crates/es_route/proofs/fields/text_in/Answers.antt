use Rattle.es_route.proofs.Texts.{text_found, text_absent}
use Rattle.es_route.proofs.fields.text_in.Goals as goal

pub returns-in_ok-of-in-Ok : goal.returns-in_ok-of-in-Ok
returns-in_ok-of-in-Ok c = text_found _ _ _ c.in-Ok.ensures.cases.0 c.in-Ok.ensures.cases.1 c.in_ok-of-in-Ok.ensures

pub returns-in-Err : goal.returns-in-Err
returns-in-Err c = text_absent _ c.in-Err.ensures.cases.0
