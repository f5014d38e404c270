use Rattle.es_template.proofs.Back.{template_back}
use Rattle.es_template.proofs.Shaped.{shape_kept}
use Rattle.es_template.proofs.Substituting.{filled_in_tree}
use Rattle.es_template.proofs.lawful.laws.Goals as goal

pub returns : goal.returns
returns c = record { template_back = template_back; filled_in_tree = filled_in_tree; shape_kept = shape_kept }
