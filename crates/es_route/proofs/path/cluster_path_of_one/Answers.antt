use Rattle.es_route.proofs.Tables.{one_bulk, one_search, one_other}
use Rattle.es_route.proofs.path.cluster_path_of_one.Goals as goal

pub returns-in-text : goal.returns-in-text
returns-in-text c = one_bulk _ c.in-text.is

pub returns-in-text-2 : goal.returns-in-text-2
returns-in-text-2 c = one_search _ c.in-text-2.is

pub returns-in_default : goal.returns-in_default
returns-in_default c = one_other _ c.in_default.not-text c.in_default.not-text-2
