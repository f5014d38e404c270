use Rattle.std.proofs.Common.{sym, ◌∙◌}
use Rattle.es_route.proofs.Tables.{index_two_empty, index_two_other, index_bulk, index_mapping, index_search}
use Rattle.es_route.proofs.path.index_path_of_two.Goals as goal

pub returns-then-not-has_bytes : goal.returns-then-not-has_bytes
returns-then-not-has_bytes c = index_two_empty _ _ (sym c.has_bytes.ensures ∙ c.if-not-has_bytes.true)

pub returns-in-text : goal.returns-in-text
returns-in-text c = index_bulk _ _ (sym c.has_bytes.ensures ∙ c.if-not-has_bytes.false) c.in-text.is

pub returns-in-text-2 : goal.returns-in-text-2
returns-in-text-2 c = index_mapping _ _ (sym c.has_bytes.ensures ∙ c.if-not-has_bytes.false) c.in-text-2.is

pub returns-in-text-3 : goal.returns-in-text-3
returns-in-text-3 c = index_search _ _ (sym c.has_bytes.ensures ∙ c.if-not-has_bytes.false) c.in-text-3.is

pub returns-in_default : goal.returns-in_default
returns-in_default c = index_two_other _ _ c.in_default.not-text c.in_default.not-text-2 c.in_default.not-text-3
