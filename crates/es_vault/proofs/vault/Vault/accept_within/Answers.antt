use Rattle.std.proofs.Common.{sym, ap, ◌∙◌}
use Rattle.es_vault.specs.World.{Entry}
use Rattle.es_vault.specs.Answer.{unless_full, accepted}
use Rattle.es_vault.specs.Lent.{change_as}
use Rattle.es_vault.specs.Vault.{VaultValue}
use Rattle.es_vault.proofs.vault.Vault.accept_within.Goals as goal

pub returns-clause-ok : goal.returns-clause-ok
returns-clause-ok c = λ caller.
    let e : Entry = record { caller = caller; weight = c.args.weight; change = change_as c.args.change } in
    (e, ap (λ o. unless_full o (accepted c.args.reply e)) (sym c.in_ok-full.ensures ∙ c.in_default.is), c.in_ok-accept.ensures.ok caller, ap (λ (u : VaultValue). u.at.place) c.self-2.view_is)
