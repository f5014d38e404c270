use Rattle.std.proofs.Common.{sym, subst}
use Rattle.es_map.specs.Entries.{IsRising}
use Rattle.es_map.proofs.Kept.{insert_rising, insert_seen}
use Rattle.es_catalog.proofs.catalog.Catalog.with_index.Goals as goal

pub invariant_of-result : goal.invariant_of-result
invariant_of-result c = subst IsRising (sym c.in_ok-with.ensures) (insert_rising c.self.inside.indices c.self.invariant _ _)

pub returns : goal.returns
returns c = insert_seen c.self.inside.indices c.self.invariant c.args.self.now c.self.view_is c.args.name.now _ c.args.index _ c.in_ok-copy.ensures c.in_ok-with.ensures
