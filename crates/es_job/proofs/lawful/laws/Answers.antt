use Rattle.es_job.proofs.Moving.{core_law}
use Rattle.es_job.proofs.lawful.laws.Goals as goal

pub returns : goal.returns
returns c = record { core = core_law }
