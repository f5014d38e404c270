use Rattle.std.proofs.Common.{arith}
use Rattle.es_template.proofs.MembersRead.{rising_read}
use Rattle.es_template.proofs.reading.+reading.Goals as goal

pub template_members-of-requires : goal.template_members-of-requires
template_members-of-requires t c =
    let l = c.loop-member in
    rising_read c.args.members.now c.as_slice-member-items.result.now l.member-index l.found l.invariant (omega (arith, c.loop-member-test.false)) c.as_slice-member-items.ensures.rising
