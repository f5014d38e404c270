use Rattle.std.proofs.Common.{sym, ap, ◌∙◌}
use Rattle.std.specs.FinMap as map
use Rattle.es_catalog.specs.Catalog.{IndexValue}
use Rattle.es_map.proofs.Kept.{get_kept}
use Rattle.es_catalog.proofs.index.Index.get.Goals as goal

pub returns-clause-document : goal.returns-clause-document
returns-clause-document c =
    c.get.ensures ∙ sym (get_kept c.self.inside.documents c.self.invariant.rising c.args.id.now)
    ∙ ap (λ (index : IndexValue). map.get index.documents c.args.id.now) c.self.view_is
