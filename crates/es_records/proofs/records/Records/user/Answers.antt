use Rattle.std.proofs.Common.{Some, sym, ap, ◌∙◌}
use Rattle.es_records.proofs.Changed.{user_at}
use Rattle.es_records.proofs.records.Records.user.Goals as goal

pub returns-in-Some : goal.returns-in-Some
returns-in-Some c = ap (λ v. Some v) c.get-in-Some.ensures ∙ c.in-Some.ensures ∙ sym (user_at c.self.inside.users c.self.inside.roles c.self.inside.keys c.self.invariant c.args.self.now c.self.view_is c.args.name.now)

pub returns-in-None : goal.returns-in-None
returns-in-None c = c.in-None.ensures ∙ sym (user_at c.self.inside.users c.self.inside.roles c.self.inside.keys c.self.invariant c.args.self.now c.self.view_is c.args.name.now)
