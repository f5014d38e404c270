use Rattle.std.proofs.Common.{arith}
use Rattle.es_grammar.proofs.Fronts.{printed_rising}
use Rattle.es_template.specs.Filling.{filled}
use Rattle.es_template.proofs.filling.+filling.Goals as goal

pub filled_members-of-requires : goal.filled_members-of-requires
filled_members-of-requires t c =
    let l = c.loop-member in
    let items = c.as_slice-member-items in
    printed_rising (filled c.args.person.now) c.args.members.now items.result.now l.member-index l.found items.ensures.items l.invariant (omega (arith, c.loop-member-test.false)) items.ensures.rising
