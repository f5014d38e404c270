use Rattle.es_tree.specs.Read.{read_of}
use Rattle.es_tree.proofs.reading.read.Goals as goal

pub returns-clause-found : goal.returns-clause-found
unfolding read_of
returns-clause-found c = c.read_within.ensures.found

pub returns-clause-fault : goal.returns-clause-fault
unfolding read_of
returns-clause-fault c = c.read_within.ensures.fault
