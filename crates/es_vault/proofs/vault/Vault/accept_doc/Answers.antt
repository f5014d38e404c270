use Rattle.std.proofs.Common.{◌≡◌, None, ◌++◌, ◌∷◌, [], ◌+◌, sym, ap, subst, ◌∙◌}
use Rattle.es_catalog.specs.Catalog.{CatalogValue}
use Rattle.es_vault.specs.World.{Entry, doc}
use Rattle.es_vault.specs.Answer.{full}
use Rattle.es_vault.specs.Vault.{VaultValue, IsSoundFor, vault_of, changed_by}
use Rattle.es_vault.proofs.Sound.{versions_small, grows, sound_after}
use Rattle.es_vault.proofs.vault.Vault.accept_doc.Goals as goal

pub with-requires : goal.with-requires
with-requires c =
    let v : VaultValue = vault_of c.self.inside.records c.self.inside.catalog c.self.inside.place c.self.inside.weight c.self.inside.limit c.self.inside.roles in
    grows c.self.inside.catalog c.args.change.now (versions_small c.self.invariant.0 c.self.invariant.1 v c.self.invariant.2)

pub invariant_of-self : goal.invariant_of-self
invariant_of-self c =
    let v : VaultValue = vault_of c.self.inside.records c.self.inside.catalog c.self.inside.place c.self.inside.weight c.self.inside.limit c.self.inside.roles in
    let e : Entry = record { caller = 0; weight = c.args.weight; change = doc c.args.change.now } in
    let room = subst (λ (u : VaultValue). full u.limit u.at c.args.weight ≡ None) (sym c.self.view_is) c.requires.room in (
      c.self.invariant.0,
      c.self.invariant.1 ++ e ∷ [],
      subst (λ (catalog : CatalogValue). IsSoundFor c.self.invariant.0 (c.self.invariant.1 ++ e ∷ []) (vault_of c.self.inside.records catalog (c.self.inside.place + 1) (c.self.inside.weight + c.args.weight) c.self.inside.limit c.self.inside.roles))
          (sym c.in_ok-self-inside.ensures) (sound_after c.self.invariant.0 c.self.invariant.1 v c.self.invariant.2 e room tt),
    )

pub returns-clause-ok : goal.returns-clause-ok
returns-clause-ok c =
    let e : Entry = record { caller = 0; weight = c.args.weight; change = doc c.args.change.now } in
    ap (λ (catalog : CatalogValue). vault_of c.self.inside.records catalog (c.self.inside.place + 1) (c.self.inside.weight + c.args.weight) c.self.inside.limit c.self.inside.roles) c.in_ok-self-inside.ensures
    ∙ ap (λ (u : VaultValue). changed_by u e) c.self.view_is
