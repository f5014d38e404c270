use Rattle.std.proofs.Common.{sym, ◌∙◌}
use Rattle.es_route.proofs.Tables.{four_third, four_fourth, four_cache}
use Rattle.es_route.proofs.path.cache_path.Goals as goal

pub returns-then-not-has_bytes : goal.returns-then-not-has_bytes
returns-then-not-has_bytes c = four_third _ _ (sym c.has_bytes.ensures ∙ c.if-not-has_bytes.true)

pub returns-in-text : goal.returns-in-text
returns-in-text c = four_cache _ _ (sym c.has_bytes.ensures ∙ c.if-not-has_bytes.false) c.in-text.is

pub returns-in_default : goal.returns-in_default
returns-in_default c = four_fourth _ _ c.in_default.not-text
