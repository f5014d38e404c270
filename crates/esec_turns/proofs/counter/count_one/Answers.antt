use Rattle.std.proofs.Common.{sym, ap, ◌∙◌, ◌++◌, ◌∷◌, [], replicate}
use Rattle.std.proofs.lemmas.List.{replicate-append-replicate}
use Rattle.es_gate.proofs.Callers.{still_turn, stands_now, in_hand}
use Rattle.esec_turns.proofs.counter.count_one.Goals as goal

pub append-requires-clause-turn : goal.append-requires-clause-turn
append-requires-clause-turn g c = let t = c.take_turn-turn.ensures in rw t.gate (still_turn (λ v. replicate v.count 0) c.args.gate.now c.take_turn-turn.result.pass.now _ _ t.turn)

pub append-requires-clause-grown : goal.append-requires-clause-grown
append-requires-clause-grown g c =
    let t = c.take_turn-turn.ensures in
    let before = in_hand (λ v. replicate v.count 0) _ _ _ t.begins.1 c.value-counter.ensures.value in
    (0, stands_now (λ v. replicate v.count 0) c.args.gate.now c.take_turn-turn.result.pass.now _ _ _ t.turn (sym (replicate-append-replicate c.value-counter.result.now.count 1 0) ∙ ap (λ xs. xs ++ 0 ∷ []) before))
