use Rattle.std.proofs.Common.{slice_get, sym, ap, ◌∙◌}
use Rattle.std.specs.FinMap as map
use Rattle.es_catalog.specs.Catalog.{IndexValue}
use Rattle.es_map.proofs.Kept.{entries_kept}
use Rattle.es_catalog.proofs.index.Index.at.Goals as goal

pub returns : goal.returns
returns c = record {
  document = c.at.ensures ∙ sym (ap (λ es. slice_get es c.args.place) (entries_kept c.self.inside.documents c.self.invariant.rising))
      ∙ ap (λ (index : IndexValue). slice_get (map.entries index.documents) c.args.place) c.self.view_is;
}
