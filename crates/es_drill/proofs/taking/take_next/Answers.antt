use Rattle.es_drill.proofs.Drilling.{took_line, took_long, took_last, took_end, took_fault, took_nothing}
use Rattle.es_drill.proofs.taking.take_next.Goals as goal

pub returns-in-Line-clause-next : goal.returns-in-Line-clause-next
returns-in-Line-clause-next g c = λ secret limit capacity count first start is so_far.
    took_line so_far c.args.number is c.requires.number c.in-Line.ensures.finds _ c.front.ensures _ c.pass.ensures _ _ _ _ (c.take_at-next.ensures.taken _ _ _ so_far.has)

pub returns-in-Long-clause-next : goal.returns-in-Long-clause-next
returns-in-Long-clause-next g c = λ secret limit capacity count first start is so_far.
    took_long so_far c.args.number is c.requires.number c.in-Long.ensures.finds _ c.all.ensures _ _ _ _ _ (c.take_at.ensures.taken _ _ _ so_far.has)

pub returns-in-Last-clause-next : goal.returns-in-Last-clause-next
returns-in-Last-clause-next g c = λ secret limit capacity count first start is so_far.
    took_last so_far c.args.number is c.requires.number c.in-Last.ensures.finds _ c.all-in-Last.ensures _ _ _ _ _ _ c.last_one.ensures (c.take_at-in-Last.ensures.taken _ _ _ so_far.has)

pub returns-in-Ended-clause-next : goal.returns-in-Ended-clause-next
returns-in-Ended-clause-next g c = λ secret limit capacity count first start is so_far. took_end so_far c.args.number is c.requires.number c.in-Ended.ensures.finds

pub returns-in-ReadFault-clause-next : goal.returns-in-ReadFault-clause-next
returns-in-ReadFault-clause-next g c = λ secret limit capacity count first start is so_far. took_fault so_far c.args.number is c.requires.number c.in-ReadFault.ensures.finds

pub returns-in-NoMemory-clause-next : goal.returns-in-NoMemory-clause-next
returns-in-NoMemory-clause-next g c = λ secret limit capacity count first start is so_far. took_nothing so_far c.args.number is c.requires.number c.in-NoMemory.ensures.finds
