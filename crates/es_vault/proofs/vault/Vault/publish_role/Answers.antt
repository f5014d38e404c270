use Rattle.std.proofs.Common.{◌≡◌, sym, ap, subst, ◌∙◌}
use Rattle.es_vault.specs.Vault.{VaultValue, IsRight, vault_of}
use Rattle.es_vault.proofs.Opening.{published}
use Rattle.es_vault.proofs.vault.Vault.publish_role.Goals as goal

pub invariant_of-self : goal.invariant_of-self
invariant_of-self c =
    let v : VaultValue = vault_of c.self.inside.records c.self.inside.catalog c.self.inside.place c.self.inside.weight c.self.inside.limit c.self.inside.roles in
    let right = subst (λ (u : VaultValue). c.args.began ≡ u.roles.count → IsRight u.at.world.records (c.args.key, c.args.role)) (sym c.self.view_is) c.requires in (
      c.self.invariant.0,
      c.self.invariant.1,
      published c.self.invariant.0 c.self.invariant.1 v c.self.invariant.2 c.publish.new.self c.args.began c.args.key c.args.role c.publish.result right c.publish.ensures.put c.publish.ensures.stale c.publish.ensures.err,
    )
