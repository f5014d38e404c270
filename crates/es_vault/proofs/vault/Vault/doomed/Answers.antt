use Rattle.std.proofs.Common.{rules, subst}
use Rattle.std.specs.Prelude.{◌≡◌, IfOk}
use Rattle.std.specs.List.{filter}
use Rattle.std.specs.Map.{keys_of}
use Rattle.std.proofs.lemmas.Result.{IfOk-weaker}
use Rattle.std.proofs.lemmas.Fn.{filter_same}
use Rattle.es_records.specs.Changes.{drops}
use Rattle.es_vault.specs.Vault.{VaultValue}
use Rattle.es_vault.proofs.vault.Vault.doomed.Goals as goal

pub returns : goal.returns
returns c =
    subst (λ (v : VaultValue). IfOk c.doomed.result (λ keys. keys ≡ filter (drops c.args.change.now) (keys_of v.roles.entries))) c.self.view_is
    (IfOk-weaker c.doomed.result _ _ (λ keys kept. filter_same _ _ _ (λ x b f' k. search rules) _ _ kept) c.doomed.ensures)
