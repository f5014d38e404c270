use Rattle.es_query.proofs.Back.{query_back}
use Rattle.es_query.proofs.kinds.Query.print.Goals as goal

pub returns-clause-reads_back : goal.returns-clause-reads_back
returns-clause-reads_back c = query_back c.args.self.now
