use Rattle.es_query.proofs.Back.{query_sound}
use Rattle.es_query.proofs.laws.read_is_sound.Goals as goal

pub returns : goal.returns
returns c = query_sound
