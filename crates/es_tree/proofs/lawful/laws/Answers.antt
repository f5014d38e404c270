use Rattle.es_tree.proofs.Readings.{read_ordered, read_back}
use Rattle.es_tree.proofs.lawful.laws.Goals as goal

pub returns-clause-read_ordered : goal.returns-clause-read_ordered
returns-clause-read_ordered c = read_ordered

pub returns-clause-read_back : goal.returns-clause-read_back
returns-clause-read_back c = read_back
