use Rattle.es_fields.proofs.Granted.{leaves_granted}
use Rattle.es_fields.proofs.Rising.{stays_ordered}
use Rattle.es_fields.proofs.Seen.{whole_mapping, type_seen, values_seen, values_alike, stays_within}
use Rattle.es_fields.proofs.lawful.laws.Goals as goal

pub returns-clause-leaves_granted : goal.returns-clause-leaves_granted
returns-clause-leaves_granted c = leaves_granted

pub returns-clause-stays_ordered : goal.returns-clause-stays_ordered
returns-clause-stays_ordered c = stays_ordered

pub returns-clause-whole_mapping : goal.returns-clause-whole_mapping
returns-clause-whole_mapping c = whole_mapping

pub returns-clause-type_seen : goal.returns-clause-type_seen
returns-clause-type_seen c = type_seen

pub returns-clause-values_seen : goal.returns-clause-values_seen
returns-clause-values_seen c = values_seen

pub returns-clause-values_alike : goal.returns-clause-values_alike
returns-clause-values_alike c = values_alike

pub returns-clause-stays_within : goal.returns-clause-stays_within
returns-clause-stays_within c = stays_within
