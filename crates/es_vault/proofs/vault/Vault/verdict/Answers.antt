use Rattle.std.proofs.Common.{◌+◌, ap, subst}
use Rattle.std.specs.Prelude.{IfOk}
use Rattle.std.proofs.lemmas.Result.{IfOk-weaker}
use Rattle.es_vault.specs.Changes.{Verdict, verdict_in}
use Rattle.es_vault.specs.Lent.{verdict_as}
use Rattle.es_vault.specs.Steps.{VerdictFits}
use Rattle.es_vault.specs.Vault.{VaultValue, vault_of}
use Rattle.es_vault.proofs.Sound.{versions_small}
use Rattle.es_vault.proofs.Outcomes.{verdict_good}
use Rattle.es_vault.proofs.vault.Vault.verdict.Goals as goal

pub verdict_of-requires-clause-versions : goal.verdict_of-requires-clause-versions
verdict_of-requires-clause-versions c =
    let v : VaultValue = vault_of c.self.inside.records c.self.inside.catalog c.self.inside.place c.self.inside.weight c.self.inside.limit c.self.inside.roles in
    versions_small c.self.invariant.0 c.self.invariant.1 v c.self.invariant.2

pub returns-clause-fits : goal.returns-clause-fits
returns-clause-fits c =
    let v : VaultValue = vault_of c.self.inside.records c.self.inside.catalog c.self.inside.place c.self.inside.weight c.self.inside.limit c.self.inside.roles in
    IfOk-weaker c.verdict_of.result _ _ (λ verdict is. verdict_good v c.args.self.now c.self.view_is c.args.subject.now c.args.call.now verdict c.requires.made is) c.verdict_of.ensures
