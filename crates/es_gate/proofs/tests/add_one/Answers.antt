use Rattle.std.proofs.Common.{ap, ◌∙◌, ◌++◌, ◌∷◌, []}
use Rattle.es_gate.proofs.Callers.{still_turn, stands_now, in_hand}
use Rattle.es_gate.proofs.tests.add_one.Goals as goal

pub append-requires-clause-turn : goal.append-requires-clause-turn
append-requires-clause-turn g c = let t = c.take_turn-turn.ensures in rw t.gate (still_turn (λ l. l.items.items) c.args.gate.now c.take_turn-turn.result.pass.now _ _ t.turn)

pub append-requires-clause-grown : goal.append-requires-clause-grown
append-requires-clause-grown g c =
    let t = c.take_turn-turn.ensures in
    let before = in_hand (λ l. l.items.items) _ _ _ t.begins.1 c.value.ensures.value in
    (c.args.x, stands_now (λ l. l.items.items) c.args.gate.now c.take_turn-turn.result.pass.now _ _ _ t.turn (c.in-Ok.ensures.items ∙ ap (λ xs. xs ++ c.args.x ∷ []) before))

pub leave-requires-in-Err-clause-turn : goal.leave-requires-in-Err-clause-turn
leave-requires-in-Err-clause-turn g c = let t = c.take_turn-turn.ensures in rw t.gate (still_turn (λ l. l.items.items) c.args.gate.now c.take_turn-turn.result.pass.now _ _ t.turn)

pub leave-requires-in-Err-clause-stands : goal.leave-requires-in-Err-clause-stands
leave-requires-in-Err-clause-stands g c =
    let t = c.take_turn-turn.ensures in
    let before = in_hand (λ l. l.items.items) _ _ _ t.begins.1 c.value.ensures.value in
    stands_now (λ l. l.items.items) c.args.gate.now c.take_turn-turn.result.pass.now _ _ _ t.turn (c.in-Err.ensures.items ∙ before)
