use Rattle.std.proofs.Common.{sym, ap, ◌∙◌}
use Rattle.es_keys.specs.Keys.{invalidated}
use Rattle.es_records.proofs.Changed.{key_found, named_seen, one_put, none_put}
use Rattle.es_records.proofs.records.Records.with_one_invalidated.Goals as goal

pub returns-in_ok-new-in-Some : goal.returns-in_ok-new-in-Some
returns-in_ok-new-in-Some c =
    one_put c.with_key.result c.args.self.now c.args.id.now _ _ (named_seen c.self.inside.users c.self.inside.roles c.self.inside.keys c.self.invariant c.args.self.now c.self.view_is) (key_found c.self.inside.users c.self.inside.roles c.self.inside.keys c.self.invariant c.args.self.now c.self.view_is c.args.id.now ∙ sym c.in-Some.ensures)
    (c.in_ok-new-in-Some.ensures ∙ c.in_ok-kept-in-Some.ensures ∙ ap invalidated c.get-in-Some.ensures) c.with_key.ensures

pub returns-in-None : goal.returns-in-None
returns-in-None c = none_put c.share.result c.args.self.now c.args.id.now (key_found c.self.inside.users c.self.inside.roles c.self.inside.keys c.self.invariant c.args.self.now c.self.view_is c.args.id.now ∙ sym c.in-None.ensures) c.share.ensures
