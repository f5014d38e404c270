use Rattle.std.proofs.Common.{sym, ◌∙◌}
use Rattle.es_route.proofs.Tables.{index_three_third, index_three_other, index_create, index_document}
use Rattle.es_route.proofs.path.document_path.Goals as goal

pub returns-then-not-has_bytes : goal.returns-then-not-has_bytes
returns-then-not-has_bytes c = index_three_third _ _ _ (sym c.has_bytes.ensures ∙ c.if-not-has_bytes.true)

pub returns-in-text : goal.returns-in-text
returns-in-text c = index_create _ _ _ c.requires (sym c.has_bytes.ensures ∙ c.if-not-has_bytes.false) c.in-text.is

pub returns-in-text-2 : goal.returns-in-text-2
returns-in-text-2 c = index_document _ _ _ c.requires (sym c.has_bytes.ensures ∙ c.if-not-has_bytes.false) c.in-text-2.is

pub returns-in_default : goal.returns-in_default
returns-in_default c = index_three_other _ _ _ c.in_default.not-text c.in_default.not-text-2
