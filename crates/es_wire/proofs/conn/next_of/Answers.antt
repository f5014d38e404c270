use Rattle.std.proofs.Common.{rules}
use Rattle.es_wire.proofs.ConnLemmas.{Waits-none, refused_next, truncated_next, ended_next, fault_next, no_memory_next, none_left}
use Rattle.es_wire.proofs.conn.next_of.Goals as goal

pub loop-raw-init : goal.loop-raw-init
loop-raw-init g c = (Waits-none _ _, c.requires.open, g.met.S.Source.read_leaves_same c.args.source.now)

pub returns-in-Refused-clause-next : goal.returns-in-Refused-clause-next
returns-in-Refused-clause-next g c =
    refused_next _ c.loop-raw.invariant.0 (rw c.deref.ensures.value at c.in-Refused.ensures)

pub returns-else-is_empty-clause-next : goal.returns-else-is_empty-clause-next
returns-else-is_empty-clause-next g c =
    let wants = rw c.deref.ensures.value at c.in-More.ensures in
    let fills = c.in-End.ensures.fills in
    truncated_next _ c.loop-raw.invariant.0 wants fills.0 fills.1.0 fills.1.1 fills.1.2 (search rules)

pub returns-then-is_empty-clause-next : goal.returns-then-is_empty-clause-next
returns-then-is_empty-clause-next g c =
    let wants = rw c.deref.ensures.value at c.in-More.ensures in
    let fills = c.in-End.ensures.fills in
    ended_next _ c.loop-raw.invariant.0 wants fills.0 fills.1.1 fills.1.2
    (none_left _ _ _ c.fill.new.pending.ok.0 c.is_empty.ensures c.if-is_empty.true)

pub returns-in-Failed-clause-next : goal.returns-in-Failed-clause-next
returns-in-Failed-clause-next g c =
    let wants = rw c.deref.ensures.value at c.in-More.ensures in
    let fills = c.in-Failed.ensures.fills in
    fault_next _ c.loop-raw.invariant.0 wants fills.0 fills.1.0 fills.1.1 fills.1.2

pub returns-in-NoMemory-fill-clause-next : goal.returns-in-NoMemory-fill-clause-next
returns-in-NoMemory-fill-clause-next g c =
    let wants = rw c.deref.ensures.value at c.in-More.ensures in
    let fills = c.in-NoMemory-fill.ensures.fills in
    no_memory_next _ c.loop-raw.invariant.0 wants fills.1 fills.2
