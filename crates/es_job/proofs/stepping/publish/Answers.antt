use Rattle.std.proofs.Common.{◌≡◌, ◌∷◌, Some, sym, ap, ◌∙◌}
use Rattle.es_job.specs.declared.due.Pair.{Pair}
use Rattle.es_job.specs.Due.{pair_of, due_pairs, rest_of}
use Rattle.es_job.proofs.Stepped.{next_first, right_there, publish_put, publish_stale}
use Rattle.es_job.proofs.stepping.publish.Goals as goal
use Rattle.es_job.proofs.stepping.publish.Goals.{in-Put, in-Stale}

pub publish_role-requires : goal.publish_role-requires
publish_role-requires c =
    let pairs : due_pairs c.args.due.now ≡ pair_of c.in_ok-pair.pair ∷ rest_of (due_pairs c.args.due.now) =
    next_first (due_pairs c.args.due.now) (pair_of c.in_ok-pair.pair) (ap (λ (p : Pair). Some (pair_of p)) c.in_ok-pair.ensures ∙ c.in-Some.ensures) in
    right_there c.args.call.now c.args.snapshot.now c.args.halves.now c.args.due.now c.requires.good.0 c.requires.good.1 c.args.vault.now (pair_of c.in_ok-pair.pair) (rest_of (due_pairs c.args.due.now)) pairs c.requires.past

pub returns-clause-ok : goal.returns-clause-ok
returns-clause-ok c =
    let pairs : due_pairs c.args.due.now ≡ pair_of c.in_ok-pair.pair ∷ rest_of (due_pairs c.args.due.now) =
    next_first (due_pairs c.args.due.now) (pair_of c.in_ok-pair.pair) (ap (λ (p : Pair). Some (pair_of p)) c.in_ok-pair.ensures ∙ c.in-Some.ensures) in
    elim c.match-branch-18.branch [
      | in-Put w ↦ rw w.note-is
          (publish_put c.args.call.now c.args.snapshot.now c.args.halves.now c.args.due.now c.requires.good.0 c.requires.good.1 c.args.vault.now c.publish_role.new.self c.in_ok-share.field-0 c.in_ok-share_halves.field-0 c.in_ok-rest.field-0
          (pair_of c.in_ok-pair.pair) (rest_of (due_pairs c.args.due.now)) pairs c.in_ok-share.ensures c.in_ok-share_halves.ensures c.in_ok-rest.ensures (sym c.in_ok-publish_role.ensures.answer ∙ w.in-Put.is) c.in_ok-publish_role.ensures.put)
      | in-Stale w ↦ rw w.note-is
          (publish_stale c.args.call.now c.args.snapshot.now c.args.halves.now c.args.due.now c.requires.good.0 c.requires.good.1 c.args.vault.now c.publish_role.new.self c.in_ok-share.field-0 c.in_ok-share_halves.field-0 c.in_ok-rest.field-0
          (pair_of c.in_ok-pair.pair) (rest_of (due_pairs c.args.due.now)) pairs c.in_ok-share.ensures c.in_ok-share_halves.ensures c.in_ok-rest.ensures w.in-Stale.began w.in-Stale.stands (sym c.in_ok-publish_role.ensures.answer ∙ w.in-Stale.is) c.in_ok-publish_role.ensures.stale)
    ]
