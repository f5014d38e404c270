use Rattle.es_match.proofs.Alike.{alike}
use Rattle.es_match.proofs.laws.holds_alike.Goals as goal

pub returns : goal.returns
returns c = alike
