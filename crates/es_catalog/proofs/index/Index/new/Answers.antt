use Rattle.es_catalog.proofs.Written.{none_sound, none_is}
use Rattle.es_catalog.proofs.index.Index.new.Goals as goal

pub invariant_of-result : goal.invariant_of-result
invariant_of-result c = none_sound _ _ _ c.empty.ensures

pub returns : goal.returns
returns c = none_is _ _ _ c.empty.ensures
