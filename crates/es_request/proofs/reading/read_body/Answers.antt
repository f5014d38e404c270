use Rattle.es_request.proofs.Timely.{timely_if_read}
use Rattle.es_request.proofs.reading.read_body.Goals as goal

pub returns-clause-timely : goal.returns-clause-timely
returns-clause-timely c = timely_if_read c.request_in.result c.args.kind c.args.pieces.now c.args.body.now c.request_in.ensures
