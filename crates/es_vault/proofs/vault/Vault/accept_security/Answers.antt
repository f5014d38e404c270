use Rattle.std.proofs.Common.{◌≡◌, None, ◌++◌, ◌∷◌, [], ◌+◌, List, sym, ap, subst, ◌∙◌, arith}
use Rattle.es_cache.specs.Cache.{Cache}
use Rattle.es_role.specs.declared.kinds.Descriptor.{Descriptor}
use Rattle.es_keys.specs.declared.kinds.RoleKey.{RoleKey}
use Rattle.es_records.specs.Records.{RecordsValue}
use Rattle.es_vault.specs.World.{Entry, security}
use Rattle.es_vault.specs.Answer.{full}
use Rattle.es_vault.specs.Replayable.{FitsAt}
use Rattle.es_vault.specs.Vault.{VaultValue, IsSoundFor, vault_of, changed_by}
use Rattle.es_vault.proofs.Sound.{count_small, sound_after}
use Rattle.es_vault.proofs.Dropping.{roles_after, changed_security}
use Rattle.es_vault.proofs.vault.Vault.accept_security.Goals as goal

pub raise-requires : goal.raise-requires
raise-requires c =
    let v : VaultValue = vault_of c.self.inside.records c.self.inside.catalog c.self.inside.place c.self.inside.weight c.self.inside.limit c.self.inside.roles in
    let small = count_small c.self.invariant.0 c.self.invariant.1 v c.self.invariant.2 in
    let same = ap (λ (x : Cache RoleKey (List Descriptor)). x.count) c.drop_all.ensures in
    omega (arith, small, same)

pub invariant_of-self : goal.invariant_of-self
invariant_of-self c =
    let v : VaultValue = vault_of c.self.inside.records c.self.inside.catalog c.self.inside.place c.self.inside.weight c.self.inside.limit c.self.inside.roles in
    let e : Entry = record { caller = 0; weight = c.args.weight; change = security c.args.change.now } in
    let room = subst (λ (u : VaultValue). full u.limit u.at c.args.weight ≡ None) (sym c.self.view_is) c.requires.room in
    let fits = subst (λ (u : VaultValue). FitsAt (u.at.place + 1) (security c.args.change.now)) (sym c.self.view_is) c.requires.fits in
    let roles = roles_after c.args.self.now v (sym c.self.view_is) c.args.change.now c.in_ok-doomed.doomed c.drop_all.new.self c.raise.new.self c.in_ok-doomed.ensures c.drop_all.ensures c.raise.ensures in (
      c.self.invariant.0,
      c.self.invariant.1 ++ e ∷ [],
      subst (IsSoundFor c.self.invariant.0 (c.self.invariant.1 ++ e ∷ [])) (sym (changed_security v c.args.change.now c.args.weight c.in_ok-self-inside.field-0 c.raise.new.self c.in_ok-self-inside.ensures roles))
          (sound_after c.self.invariant.0 c.self.invariant.1 v c.self.invariant.2 e room fits),
    )

pub returns-clause-ok : goal.returns-clause-ok
returns-clause-ok c =
    let v : VaultValue = vault_of c.self.inside.records c.self.inside.catalog c.self.inside.place c.self.inside.weight c.self.inside.limit c.self.inside.roles in
    let e : Entry = record { caller = 0; weight = c.args.weight; change = security c.args.change.now } in
    let roles = roles_after c.args.self.now v (sym c.self.view_is) c.args.change.now c.in_ok-doomed.doomed c.drop_all.new.self c.raise.new.self c.in_ok-doomed.ensures c.drop_all.ensures c.raise.ensures in
    changed_security v c.args.change.now c.args.weight c.in_ok-self-inside.field-0 c.raise.new.self c.in_ok-self-inside.ensures roles
    ∙ ap (λ (u : VaultValue). changed_by u e) c.self.view_is
