use Rattle.es_compose.proofs.Rechecked.{checked_sound}
use Rattle.es_compose.proofs.checking.CheckedFormForm.read.Goals as goal

pub returns-clause-sound : goal.returns-clause-sound
returns-clause-sound c = checked_sound c.in_ok-descriptor.descriptor c.checked.result c.checked.ensures c.in_ok-descriptor.ensures.sound
