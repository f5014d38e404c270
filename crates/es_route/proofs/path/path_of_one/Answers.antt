use Rattle.std.proofs.Common.{sym, ◌∙◌}
use Rattle.es_route.proofs.Tables.{of_cluster, of_index}
use Rattle.es_route.proofs.path.path_of_one.Goals as goal

pub returns-then-is_of_cluster : goal.returns-then-is_of_cluster
returns-then-is_of_cluster c = c.cluster_path_of_one.ensures ∙ sym (of_cluster _ _ (sym c.is_of_cluster.ensures ∙ c.if-is_of_cluster.true))

pub returns-else-is_of_cluster : goal.returns-else-is_of_cluster
returns-else-is_of_cluster c = c.index_path_of_one.ensures ∙ sym (of_index _ _ (sym c.is_of_cluster.ensures ∙ c.if-is_of_cluster.false))
