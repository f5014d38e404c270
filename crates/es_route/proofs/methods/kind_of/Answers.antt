use Rattle.es_route.proofs.Tables.{no_kind}
use Rattle.es_route.proofs.methods.kind_of.Goals as goal

pub returns-in_default : goal.returns-in_default
returns-in_default c = no_kind _ c.in_default.not-DELETE c.in_default.not-GET c.in_default.not-POST c.in_default.not-PUT c.args.path.now
