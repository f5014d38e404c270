use Rattle.std.proofs.Common.{◌≡◌, List, sym, subst}
use Rattle.es_cache.specs.Cache.{Cache}
use Rattle.es_cache.specs.Entries.{brought_first}
use Rattle.es_cache.proofs.CallerLemmas.{All-brought_first}
use Rattle.es_role.specs.declared.kinds.Descriptor.{Descriptor}
use Rattle.es_keys.specs.declared.kinds.RoleKey.{RoleKey}
use Rattle.es_vault.specs.Keys.{same_key}
use Rattle.es_vault.specs.Vault.{VaultValue, IsRight, IsSoundFor, vault_of}
use Rattle.es_vault.proofs.Sound.{sound_with}
use Rattle.es_vault.proofs.vault.Vault.bring.Goals as goal

pub invariant_of-self : goal.invariant_of-self
invariant_of-self c =
    let v : VaultValue = vault_of c.self.inside.records c.self.inside.catalog c.self.inside.place c.self.inside.weight c.self.inside.limit c.self.inside.roles in
    let sound : IsSoundFor c.self.invariant.0 c.self.invariant.1 v = c.self.invariant.2 in (
      c.self.invariant.0,
      c.self.invariant.1,
      subst (λ (roles : Cache RoleKey (List Descriptor)). IsSoundFor c.self.invariant.0 c.self.invariant.1 (record v { roles = roles })) (sym c.find.follows.holds-at-none)
          (sound_with c.self.invariant.0 c.self.invariant.1 v sound (brought_first (same_key c.args.key.now) v.roles.entries)
          (All-brought_first (IsRight v.at.world.records) (same_key c.args.key.now) v.roles.entries sound.right)),
    )
