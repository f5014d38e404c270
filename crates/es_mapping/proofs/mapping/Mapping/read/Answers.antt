use Rattle.es_mapping.specs.Mappings.{mapping_form}
use Rattle.es_mapping.proofs.mapping.Mapping.read.Goals as goal

pub returns : goal.returns
returns c = c.placed.ensures.gives (mapping_form c.args.tree.now) c.read.ensures.gives
