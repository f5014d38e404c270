use Rattle.es_grammar.proofs.Ruled.{sample_follows}
use Rattle.es_grammar.proofs.lawful.laws.Goals as goal

pub returns : goal.returns
returns c = sample_follows
