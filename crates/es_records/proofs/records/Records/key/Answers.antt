use Rattle.std.proofs.Common.{Some, sym, ap, ◌∙◌}
use Rattle.es_records.proofs.Changed.{key_found}
use Rattle.es_records.proofs.records.Records.key.Goals as goal

pub returns-in-Some : goal.returns-in-Some
returns-in-Some c = ap (λ v. Some v) c.get-in-Some.ensures ∙ c.in-Some.ensures ∙ sym (key_found c.self.inside.users c.self.inside.roles c.self.inside.keys c.self.invariant c.args.self.now c.self.view_is c.args.id.now)

pub returns-in-None : goal.returns-in-None
returns-in-None c = c.in-None.ensures ∙ sym (key_found c.self.inside.users c.self.inside.roles c.self.inside.keys c.self.invariant c.args.self.now c.self.view_is c.args.id.now)
