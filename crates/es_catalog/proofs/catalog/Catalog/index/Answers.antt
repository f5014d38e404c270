use Rattle.std.proofs.Common.{sym, ◌∙◌}
use Rattle.es_map.proofs.Kept.{get_seen}
use Rattle.es_catalog.proofs.catalog.Catalog.index.Goals as goal

pub returns : goal.returns
returns c = c.get.ensures ∙ sym (get_seen c.self.inside.indices c.self.invariant c.args.self.now c.self.view_is c.args.name.now)
