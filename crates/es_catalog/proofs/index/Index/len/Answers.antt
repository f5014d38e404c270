use Rattle.std.proofs.Common.{sym, ap, ◌∙◌}
use Rattle.std.specs.FinMap as map
use Rattle.es_catalog.specs.Catalog.{IndexValue}
use Rattle.es_map.proofs.Kept.{len_kept}
use Rattle.es_catalog.proofs.index.Index.len.Goals as goal

pub returns : goal.returns
returns c = c.len.ensures.length ∙ sym (len_kept c.self.inside.documents c.self.invariant.rising) ∙ ap (λ (index : IndexValue). map.len index.documents) c.self.view_is
