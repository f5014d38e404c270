use Rattle.std.proofs.Common.{refl, sym, ap, ◌∙◌}
use Rattle.es_vault.specs.Keys.{fed_key}
use Rattle.es_vault.proofs.Fed.{fed_more, fed_all}
use Rattle.es_keys.specs.declared.kinds.RoleKey.TheVariants.{Names}
use Rattle.es_vault.proofs.half.HalfHash.hash.Goals as goal

pub loop-name-init : goal.loop-name-init
loop-name-init g c = refl

pub loop-name-preserved : goal.loop-name-preserved
loop-name-preserved g c =
    fed_more g.H.Hasher.write c.args.state.now c.loop-name.state c.hash.new.state c.as_slice-name-items.result.now c.loop-name.name-index c.name-item.result c.text.result.now c.loop-name-test.true c.name-item.is c.text.ensures
    c.loop-name.invariant c.hash.ensures

pub returns-after-loop-name : goal.returns-after-loop-name
returns-after-loop-name g c =
    fed_all g.H.Hasher.write c.args.state.now c.loop-name.state c.as_slice-name-items.result.now c.loop-name.name-index c.in-Names.names c.args.self.now c.loop-name-test.false (c.as_slice-name-items.ensures ∙ c.get.ensures)
    (sym c.self.view_is ∙ c.in-Names.is) c.loop-name.invariant
