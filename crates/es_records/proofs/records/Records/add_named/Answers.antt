use Rattle.std.proofs.Common.{Some, sym, ap, ◌∙◌}
use Rattle.std.specs.FinMap as map
use Rattle.std.proofs.lemmas.Result.{on_ok_weaker}
use Rattle.es_records.proofs.Changed.{role_at}
use Rattle.es_records.proofs.Walked.{added_none, added_one}
use Rattle.es_records.proofs.records.Records.add_named.Goals as goal

pub returns-in_ok-share-in-Some : goal.returns-in_ok-share-in-Some
returns-in_ok-share-in-Some c =
    let stands = c.in-Some.ensures ∙ sym (role_at c.self.inside.users c.self.inside.roles c.self.inside.keys c.self.invariant c.args.self.now c.self.view_is c.text.result.now) ∙ ap (map.get c.args.self.now.roles) c.text.ensures in
    on_ok_weaker c.push.result (added_one _ _ _ _ _ _ (ap (λ d. Some d) c.in_ok-share-in-Some.ensures ∙ stands) c.in_ok-copy-in-Some.ensures) c.push.ensures.ok

pub returns-in-None : goal.returns-in-None
returns-in-None c = added_none _ _ _ (c.in-None.ensures ∙ sym (role_at c.self.inside.users c.self.inside.roles c.self.inside.keys c.self.invariant c.args.self.now c.self.view_is c.text.result.now) ∙ ap (map.get c.args.self.now.roles) c.text.ensures)
