use Rattle.es_route.proofs.Tables.{three_privileges, three_user}
use Rattle.es_route.proofs.path.user_path.Goals as goal

pub returns-in-text : goal.returns-in-text
returns-in-text c = three_privileges _ c.in-text.is

pub returns-in_default : goal.returns-in_default
returns-in_default c = three_user _ c.requires c.in_default.not-text
