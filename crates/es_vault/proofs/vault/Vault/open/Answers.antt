use Rattle.std.proofs.Common.{[], ◌∷◌}
use Rattle.es_vault.specs.World.{opening_entry}
use Rattle.es_vault.proofs.Opening.{sound_made}
use Rattle.es_vault.proofs.vault.Vault.open.Goals as goal

pub invariant_of-result : goal.invariant_of-result
invariant_of-result c = (
  c.args.secret.now,
  opening_entry ∷ [],
  sound_made c.args.secret.now c.args.limits.journal c.args.limits.role_cache c.in_ok-opening.field-0 c.opening-2.result c.in_ok-new.field-0 c.in_ok-opening.ensures c.opening-2.ensures c.in_ok-new.ensures c.requires.journal c.requires.most,
)
