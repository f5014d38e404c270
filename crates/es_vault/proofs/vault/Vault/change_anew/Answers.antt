use Rattle.std.proofs.Common.{refl, ap, subst, ◌∙◌}
use Rattle.es_records.specs.Records.{RecordsValue}
use Rattle.es_vault.specs.Decision.{decision, denial_of}
use Rattle.es_vault.specs.Answer.{Asked}
use Rattle.es_vault.specs.Stops.{IsStop}
use Rattle.es_vault.specs.Vault.{VaultValue}
use Rattle.es_vault.proofs.Outcomes.{change_denied}
use Rattle.es_vault.proofs.vault.Vault.change_anew.Goals as goal
use Rattle.es_vault.proofs.vault.Vault.change_anew.Goals.{in-Reply, in-NoMemory}

pub returns-after-stop-clause-ok : goal.returns-after-stop-clause-ok
returns-after-stop-clause-ok c =
    let v : VaultValue = c.args.self.now in
    let stops = subst (λ (u : VaultValue). IsStop c.in-Err.stop (denial_of (decision u.at.world.records c.args.call.now))) c.self.view_is c.in-Err.ensures.stops in
    elim c.match-stop.branch [
      | in-Reply w ↦ rw w.result-is
          (λ caller.
          let asked : Asked = record { caller = caller; call = c.args.call.now } in
          (change_denied v.limit v.at asked w.in-Reply.reply (rw w.in-Reply.is at stops), refl, ap (λ (u : VaultValue). u.at.place) c.self.view_is))
      | in-NoMemory w ↦ rw w.result-is tt
    ]
