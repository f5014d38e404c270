use Rattle.std.proofs.Common.{sym, ap, ◌∙◌}
use Rattle.std.specs.Option.{option_copied}
use Rattle.es_records.proofs.Changed.{user_at}
use Rattle.es_records.proofs.Deciding.{target_known, target_unknown}
use Rattle.es_records.proofs.records.Records.target_of.Goals as goal

pub returns-in_ok-share-in-Some-get : goal.returns-in_ok-share-in-Some-get
returns-in_ok-share-in-Some-get c =
    target_known c.args.self.now _ _ (ap option_copied c.in-Some.is) _ _ (c.in-Some-get.ensures ∙ sym (user_at c.self.inside.users c.self.inside.roles c.self.inside.keys c.self.invariant c.args.self.now c.self.view_is _)) c.in_ok-share-in-Some-get.ensures

pub returns-in-None : goal.returns-in-None
returns-in-None c = target_unknown c.args.self.now _ _ (ap option_copied c.in-Some.is) (c.in-None.ensures ∙ sym (user_at c.self.inside.users c.self.inside.roles c.self.inside.keys c.self.invariant c.args.self.now c.self.view_is _))
