use Rattle.es_role.proofs.Described.{descriptor_reread}
use Rattle.es_role.proofs.lawful.laws.Goals as goal

pub returns : goal.returns
returns c = record { descriptor_back = descriptor_reread }
