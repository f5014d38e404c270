use Rattle.std.proofs.Common.{arith, refl}
use Rattle.es_drill.proofs.Drilling.{after_byte, after_end, after_fault}
use Rattle.es_drill.proofs.taking.take_all.Goals as goal

pub take_next-requires-clause-state : goal.take_next-requires-clause-state
take_next-requires-clause-state g c =
    let begins = c.requires.goes in (begins.0, begins.1, begins.2, c.loop-i.i, _, _, refl, c.loop-i.invariant.goes _ _ _ begins.3)

pub loop-i-init : goal.loop-i-init
loop-i-init g c = record { goes = λ secret limit capacity begins. begins; read_leaves = g.met.S.Source.read_leaves_same _; write_leaves = g.met.K.Sink.write_leaves_same _ }

pub loop-i-preserved : goal.loop-i-preserved
loop-i-preserved g c = record {
  goes = λ secret limit capacity begins. c.in-On.ensures.next secret limit capacity c.loop-i.i _ _ refl (c.loop-i.invariant.goes secret limit capacity begins);
  read_leaves = g.met.S.Source.read_leaves_then _ _ _ c.loop-i.invariant.read_leaves c.in-On.ensures.read_leaves;
  write_leaves = g.met.K.Sink.write_leaves_then _ _ _ c.loop-i.invariant.write_leaves c.in-On.ensures.write_leaves;
}

pub after-requires : goal.after-requires
after-requires g c = let begins = c.requires.goes in (c.loop-i.invariant.goes _ _ _ begins.3).source_is_open

pub returns-in-Ends-clause-drilled : goal.returns-in-Ends-clause-drilled
returns-in-Ends-clause-drilled g c = λ secret limit capacity begins. c.in-Ends.ensures.next secret limit capacity c.loop-i.i _ _ refl (c.loop-i.invariant.goes secret limit capacity begins)

pub returns-in-Ends-clause-read_leaves : goal.returns-in-Ends-clause-read_leaves
returns-in-Ends-clause-read_leaves g c = g.met.S.Source.read_leaves_then _ _ _ c.loop-i.invariant.read_leaves c.in-Ends.ensures.read_leaves

pub returns-in-Ends-clause-write_leaves : goal.returns-in-Ends-clause-write_leaves
returns-in-Ends-clause-write_leaves g c = g.met.K.Sink.write_leaves_then _ _ _ c.loop-i.invariant.write_leaves c.in-Ends.ensures.write_leaves

pub returns-in-Byte-clause-drilled : goal.returns-in-Byte-clause-drilled
returns-in-Byte-clause-drilled g c = λ secret limit capacity begins. after_byte (c.loop-i.invariant.goes secret limit capacity begins) (omega arith) c.in-Byte.ensures.after

pub returns-in-End-clause-drilled : goal.returns-in-End-clause-drilled
returns-in-End-clause-drilled g c = λ secret limit capacity begins. after_end (c.loop-i.invariant.goes secret limit capacity begins) (omega arith) c.in-End.ensures.after

pub returns-in-ReadFault-clause-drilled : goal.returns-in-ReadFault-clause-drilled
returns-in-ReadFault-clause-drilled g c = λ secret limit capacity begins. after_fault (c.loop-i.invariant.goes secret limit capacity begins) (omega arith) c.in-ReadFault.ensures.after

pub returns-in-Byte-clause-read_leaves : goal.returns-in-Byte-clause-read_leaves
returns-in-Byte-clause-read_leaves g c = g.met.S.Source.read_leaves_then _ _ _ c.loop-i.invariant.read_leaves c.in-Byte.ensures.leaves

pub returns-in-End-clause-read_leaves : goal.returns-in-End-clause-read_leaves
returns-in-End-clause-read_leaves g c = g.met.S.Source.read_leaves_then _ _ _ c.loop-i.invariant.read_leaves c.in-End.ensures.leaves

pub returns-in-ReadFault-clause-read_leaves : goal.returns-in-ReadFault-clause-read_leaves
returns-in-ReadFault-clause-read_leaves g c = g.met.S.Source.read_leaves_then _ _ _ c.loop-i.invariant.read_leaves c.in-ReadFault.ensures.leaves

pub returns-in-Byte-clause-write_leaves : goal.returns-in-Byte-clause-write_leaves
returns-in-Byte-clause-write_leaves g c = c.loop-i.invariant.write_leaves

pub returns-in-End-clause-write_leaves : goal.returns-in-End-clause-write_leaves
returns-in-End-clause-write_leaves g c = c.loop-i.invariant.write_leaves

pub returns-in-ReadFault-clause-write_leaves : goal.returns-in-ReadFault-clause-write_leaves
returns-in-ReadFault-clause-write_leaves g c = c.loop-i.invariant.write_leaves
