use Rattle.std.proofs.Common.{sym, ◌∙◌}
use Rattle.es_records.proofs.Changed.{named_seen}
use Rattle.es_records.proofs.Deciding.{known_is_of}
use Rattle.es_records.proofs.records.Records.who.Goals as goal

pub returns-in_ok-target_of-in-Some-clause-is_of : goal.returns-in_ok-target_of-in-Some-clause-is_of
returns-in_ok-target_of-in-Some-clause-is_of c =
    known_is_of c.args.self.now c.args.credentials.now c.args.moment c.in-Some.caller (named_seen c.self.inside.users c.self.inside.roles c.self.inside.keys c.self.invariant c.args.self.now c.self.view_is)
    (sym c.in-Some.is ∙ c.in_ok-caller.ensures)
