use Rattle.std.proofs.Common.{sym, ◌∙◌}
use Rattle.es_records.proofs.Changed.{user_at}
use Rattle.es_records.proofs.Deciding.{user_told}
use Rattle.es_records.proofs.records.Records.user_of.Goals as goal

pub returns : goal.returns
returns c =
    user_told c.known_user.result _ (sym c.is_secret.ensures ∙ c.if-not-is_secret.false) _ _ _ _ c.digest-digest.ensures (c.get.ensures ∙ sym (user_at c.self.inside.users c.self.inside.roles c.self.inside.keys c.self.invariant c.args.self.now c.self.view_is c.args.name.now)) c.known_user.ensures
