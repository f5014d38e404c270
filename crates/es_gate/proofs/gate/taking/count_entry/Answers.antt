use Rattle.std.proofs.Common.{rules, ap, arith, refl, length, length-append, ◌∷◌, [], ◌-◌, Some}
use Rattle.es_gate.specs.Turns.{LiesBeside, listed}
use Rattle.es_gate.proofs.Moves.{adds}
use Rattle.es_gate.proofs.Turning.{grown_by, counts_one}
use Rattle.es_gate.proofs.gate.taking.count_entry.Goals as goal

pub compare_exchange_with-requires : goal.compare_exchange_with-requires
compare_exchange_with-requires g c =
    let t = c.requires.turn in
    let by = grown_by g.V.Stands.entries c.args.pass.now.seat c.args.held.now c.in-Some.inside c.requires.grown c.in-Some.is in (
      search rules,
      search rules,
      adds (LiesBeside g.V.Stands.entries) _ _ _ _ (listed g.V.Stands.entries) (Some (record { value = c.in-Some.inside.value; book = c.add.new.self })) by.0 t.1.0 t.1.1 _ t.1.2
          (let a = c.length-before.ensures in let b = ap length by.1 in let d = length-append c.args.pass.now.seat.me.0.seen (by.0 ∷ []) in omega (arith, a, b, d))
          by.1,
    )

pub returns-clause-turn : goal.returns-clause-turn
returns-clause-turn g c = (counts_one g.V.Stands.entries c.args.gate.now.table.shared.table_id c.args.gate.now.table.shared.table_id.slots (c.length-before.result - 1) c.compare_exchange_with.result c.args.pass.now.seat c.compare_exchange_with.new.seat c.args.held.now c.in-Some.inside (record { value = c.in-Some.inside.value; book = c.add.new.self }) c.requires.turn c.requires.grown c.in-Some.is refl c.add.ensures.total c.compare_exchange_with.ensures.0 c.compare_exchange_with.ensures.2).0

pub returns-clause-books : goal.returns-clause-books
returns-clause-books g c = (counts_one g.V.Stands.entries c.args.gate.now.table.shared.table_id c.args.gate.now.table.shared.table_id.slots (c.length-before.result - 1) c.compare_exchange_with.result c.args.pass.now.seat c.compare_exchange_with.new.seat c.args.held.now c.in-Some.inside (record { value = c.in-Some.inside.value; book = c.add.new.self }) c.requires.turn c.requires.grown c.in-Some.is refl c.add.ensures.total c.compare_exchange_with.ensures.0 c.compare_exchange_with.ensures.2).1

pub returns-clause-seen : goal.returns-clause-seen
returns-clause-seen g c = (counts_one g.V.Stands.entries c.args.gate.now.table.shared.table_id c.args.gate.now.table.shared.table_id.slots (c.length-before.result - 1) c.compare_exchange_with.result c.args.pass.now.seat c.compare_exchange_with.new.seat c.args.held.now c.in-Some.inside (record { value = c.in-Some.inside.value; book = c.add.new.self }) c.requires.turn c.requires.grown c.in-Some.is refl c.add.ensures.total c.compare_exchange_with.ensures.0 c.compare_exchange_with.ensures.2).2
