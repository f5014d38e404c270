use Rattle.es_route.proofs.Tables.{two_authenticate, two_keys, two_other}
use Rattle.es_route.proofs.path.security_path.Goals as goal

pub returns-in-text : goal.returns-in-text
returns-in-text c = two_authenticate _ c.in-text.is

pub returns-in-api_key : goal.returns-in-api_key
returns-in-api_key c = two_keys _ c.in-api_key.is

pub returns-in_default : goal.returns-in_default
returns-in_default c = two_other _ c.in_default.not-text c.in_default.not-api_key
