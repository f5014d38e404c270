use Rattle.std.proofs.Common.{sym, subst}
use Rattle.es_map.specs.Entries.{IsRising}
use Rattle.es_map.proofs.Kept.{remove_rising, remove_seen}
use Rattle.es_catalog.proofs.catalog.Catalog.without_index.Goals as goal

pub invariant_of-result : goal.invariant_of-result
invariant_of-result c = subst IsRising (sym c.in_ok-without.ensures) (remove_rising c.self.inside.indices c.self.invariant c.args.name.now)

pub returns : goal.returns
returns c = remove_seen c.self.inside.indices c.self.invariant c.args.self.now c.self.view_is c.args.name.now _ c.in_ok-without.ensures
