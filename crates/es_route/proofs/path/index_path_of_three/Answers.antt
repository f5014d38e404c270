use Rattle.std.proofs.Common.{sym, ◌∙◌}
use Rattle.es_route.proofs.Tables.{index_three_first}
use Rattle.es_route.proofs.path.index_path_of_three.Goals as goal

pub returns-then-not-has_bytes : goal.returns-then-not-has_bytes
returns-then-not-has_bytes c = index_three_first _ _ _ (sym c.has_bytes.ensures ∙ c.if-not-has_bytes.true)
