use Rattle.es_route.proofs.Texts.{IsUtf8-from_target}
use Rattle.es_route.proofs.target.ascii.Goals as goal

pub unreachable-requires : goal.unreachable-requires
unreachable-requires c = c.in-Err.ensures.cases.0 (IsUtf8-from_target _ c.requires)
