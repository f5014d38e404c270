use Rattle.std.proofs.Common.{sym, ◌∙◌}
use Rattle.es_route.proofs.Tables.{index_one, index_one_empty}
use Rattle.es_route.proofs.path.index_path_of_one.Goals as goal

pub returns-then-not-has_bytes : goal.returns-then-not-has_bytes
returns-then-not-has_bytes c = index_one_empty _ (sym c.has_bytes.ensures ∙ c.if-not-has_bytes.true)

pub returns : goal.returns
returns c = index_one _ (sym c.has_bytes.ensures ∙ c.if-not-has_bytes.false)
