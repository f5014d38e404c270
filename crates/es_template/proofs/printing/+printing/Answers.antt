use Rattle.std.proofs.Common.{arith}
use Rattle.es_grammar.proofs.Fronts.{printed_rising}
use Rattle.es_template.specs.Printed.{template_tree}
use Rattle.es_template.proofs.printing.+printing.Goals as goal

pub members_of-of-requires : goal.members_of-of-requires
members_of-of-requires t c =
    let l = c.loop-member in
    let items = c.as_slice-member-items in
    printed_rising template_tree c.args.members.now items.result.now l.member-index l.found items.ensures.items l.invariant (omega (arith, c.loop-member-test.false)) items.ensures.rising
