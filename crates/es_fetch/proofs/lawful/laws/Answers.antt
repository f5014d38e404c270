use Rattle.es_fetch.proofs.Maps.{document_seen, index_seen}
use Rattle.es_fetch.proofs.lawful.laws.Goals as goal

pub returns : goal.returns
returns c = record { document_seen = document_seen; index_seen = index_seen }
