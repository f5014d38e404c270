use Rattle.es_map.proofs.Kept.{none_rising, none_kept}
use Rattle.es_catalog.proofs.catalog.Catalog.opening.Goals as goal

pub invariant_of-result : goal.invariant_of-result
invariant_of-result c = none_rising _ c.empty.ensures

pub returns : goal.returns
returns c = none_kept _ c.empty.ensures
