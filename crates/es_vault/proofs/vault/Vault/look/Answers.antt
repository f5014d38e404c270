use Rattle.std.proofs.Common.{Some, None, sym, ap, ◌∙◌}
use Rattle.std.specs.Option.{option_copied}
use Rattle.es_records.specs.Records.{who}
use Rattle.es_vault.specs.Vault.{VaultValue, vault_of}
use Rattle.es_vault.proofs.Looked.{look_hit, look_miss, snapshot_is_of}
use Rattle.es_vault.proofs.vault.Vault.look.Goals as goal

pub returns-in-Some-halves-clause-ok : goal.returns-in-Some-halves-clause-ok
returns-in-Some-halves-clause-ok c =
    let v : VaultValue = vault_of c.self.inside.records c.self.inside.catalog c.self.inside.place c.self.inside.weight c.self.inside.limit c.self.inside.roles in
    look_hit v c.args.self.now c.self.view_is c.self.invariant.2.right _ (λ records. who records c.args.credentials.now (option_copied c.args.run_as) c.args.moment) c.in-Some.subject c.in_ok-snapshot.snapshot c.in_ok-keys.keys _ c.in-Some-halves.halves _
    c.in_ok-subject.ensures.who c.in-Some.is c.in_ok-subject.ensures.is_of c.in_ok-keys.ensures c.in_ok-halves.ensures c.in-Some-halves.is c.in_ok-snapshot.ensures c.bring_all.ensures

pub returns-in-None-clause-ok : goal.returns-in-None-clause-ok
returns-in-None-clause-ok c =
    let v : VaultValue = vault_of c.self.inside.records c.self.inside.catalog c.self.inside.place c.self.inside.weight c.self.inside.limit c.self.inside.roles in
    look_miss v c.args.self.now c.self.view_is _ (λ records. who records c.args.credentials.now (option_copied c.args.run_as) c.args.moment) c.in-Some.subject c.in_ok-snapshot.snapshot c.in_ok-keys.keys _
    c.in_ok-subject.ensures.who c.in-Some.is c.in_ok-subject.ensures.is_of c.in_ok-keys.ensures c.in_ok-halves.ensures c.in-None.is c.in_ok-snapshot.ensures

pub returns-in-Some-halves-clause-is_of : goal.returns-in-Some-halves-clause-is_of
returns-in-Some-halves-clause-is_of c =
    let v : VaultValue = vault_of c.self.inside.records c.self.inside.catalog c.self.inside.place c.self.inside.weight c.self.inside.limit c.self.inside.roles in
    snapshot_is_of v c.args.self.now c.self.view_is _ c.in-Some.subject c.in_ok-snapshot.snapshot c.in-Some.is c.in_ok-subject.ensures.is_of c.in_ok-snapshot.ensures

pub returns-in-None-clause-is_of : goal.returns-in-None-clause-is_of
returns-in-None-clause-is_of c =
    let v : VaultValue = vault_of c.self.inside.records c.self.inside.catalog c.self.inside.place c.self.inside.weight c.self.inside.limit c.self.inside.roles in
    snapshot_is_of v c.args.self.now c.self.view_is _ c.in-Some.subject c.in_ok-snapshot.snapshot c.in-Some.is c.in_ok-subject.ensures.is_of c.in_ok-snapshot.ensures
