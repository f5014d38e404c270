use Rattle.std.proofs.Common.{refl, ◌≡◌, ◌∷◌, [], ◌++◌}
use Rattle.es_wire.specs.declared.receipt.Receipt.{Receipt}
use Rattle.es_drive.specs.Turns.{caller}
use Rattle.es_drive.proofs.Journals.{replies_from, drawn_where}
use Rattle.es_drive.proofs.run.answer_next.Goals as goal

pub returns-clause-ok : goal.returns-clause-ok
returns-clause-ok g c = λ w J stands.
    let made = c.in_ok-call.ensures in
    let r : Receipt = record { place = c.seen.result; moment = c.moment_of-moment.result; changed = c.in_ok-done.done.changed; draw = c.in_ok-call.call.draw } in
    let kept : c.push.new.self.items ≡ c.args.receipts.now.items ++ r ∷ [] = rw c.reserve.ensures.items at (rw c.unwrap.ensures at c.push.ensures.items) in
    let answered = rw made.call at (c.in_ok-done.ensures.ok caller) in
    replies_from _ w _ J _ _ _ _ _ _ _ _ _ _ r _ stands answered c.seen.ensures.place c.seen.ensures.positive refl
    (drawn_where _ _ _ made.call made.made) made.drew
    (c.moment_of-moment.ensures.limit, c.moment_of-moment.ensures.told) kept refl
