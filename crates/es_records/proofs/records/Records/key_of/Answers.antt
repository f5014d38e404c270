use Rattle.std.proofs.Common.{sym, ◌∙◌}
use Rattle.es_records.proofs.Changed.{key_found, named_seen}
use Rattle.es_records.proofs.Deciding.{key_told}
use Rattle.es_records.proofs.records.Records.key_of.Goals as goal

pub returns : goal.returns
returns c =
    key_told c.known_key.result _ (sym c.is_secret.ensures ∙ c.if-not-is_secret.false) _ _ _ c.args.moment _ _ ((named_seen c.self.inside.users c.self.inside.roles c.self.inside.keys c.self.invariant c.args.self.now c.self.view_is).keys c.args.id.now) c.digest-digest.ensures (c.get.ensures ∙ sym (key_found c.self.inside.users c.self.inside.roles c.self.inside.keys c.self.invariant c.args.self.now c.self.view_is c.args.id.now)) c.known_key.ensures
