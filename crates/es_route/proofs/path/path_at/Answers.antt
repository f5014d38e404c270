use Rattle.std.proofs.Common.{sym, subst}
use Rattle.es_route.specs.Paths.{SegmentsAre}
use Rattle.es_route.proofs.Tables.{too_long}
use Rattle.es_route.proofs.path.path_at.Goals as goal

pub returns-in-More : goal.returns-in-More
returns-in-More c = λ list are. sym (too_long list (subst (λ s. SegmentsAre s list) c.in-More.is are))
