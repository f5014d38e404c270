-- Each step brings a call nearer to its end.
use Rattle.std.proofs.Common.{◌≡◌, ◌≢◌, ℕ, ◌+◌, ◌<◌, ◌≤◌, Bool, true, false, List, [], ◌∷◌, length, length-append, Option, Some, None, refl, arith, if◌then◌else◌}
use Rattle.std.specs.Prelude.{◌==◌}
use Rattle.es_response.specs.Reply.{ReplyValue}
use Rattle.es_keys.specs.declared.kinds.Caller.{Caller}
use Rattle.es_keys.specs.declared.kinds.Caller.TheVariants as caller
use Rattle.es_keys.specs.declared.kinds.Target.{Target}
use Rattle.es_keys.specs.declared.kinds.Target.TheVariants as target
use Rattle.es_keys.specs.declared.kinds.NamedPart.{NamedPart}
use Rattle.es_keys.specs.declared.kinds.RoleKey.{RoleKey}
use Rattle.es_keys.specs.declared.kinds.Subject.{Subject}
use Rattle.es_keys.specs.Halves.{halves_of, key_halves, caller_halves, target_halves}
use Rattle.es_records.specs.Records.{who}
use Rattle.es_vault.specs.declared.look.Snapshot.{Snapshot}
use Rattle.es_vault.specs.Answer.{Asked, Outcome, refused, overfull, accepted, change_in}
use Rattle.es_vault.specs.Vault.{VaultValue, has_all}
use Rattle.es_vault.specs.Steps.{snapshot_for}
use Rattle.es_job.specs.declared.note.NextStep.TheVariants as next
use Rattle.es_job.specs.Answer.{static_of, is_due, shown_in}
use Rattle.es_job.specs.Steps.{Phase, begun, publishing, changing, ended, world_of, next_of, next_with, first_step, look_step, found_step, publish_step, change_step, step_of, next_step_of, steps_left}

-- a subject has three halves at the most
few_of_key : (id : List ℕ) (assigned : List NamedPart) → length (key_halves id assigned) ≤ 2
few_of_key id [] = omega arith
few_of_key id (first ∷ others) = omega arith

few_of_caller : (c : Caller) → length (caller_halves c) ≤ 2
few_of_caller (caller.User user) = omega arith
few_of_caller (caller.Key kept) = few_of_key kept.id kept.assigned

few_of_target : (t : Target) → length (target_halves t) ≤ 1
few_of_target target.Own = omega arith
few_of_target (target.As user) = omega arith
few_of_target target.Unknown = omega arith

pub few_halves : (subject : Subject) → length (halves_of subject) ≤ 3
unfolding halves_of
few_halves subject =
    let both = length-append (caller_halves subject.caller) (target_halves subject.target) in
    let first = few_of_caller subject.caller in
    let second = few_of_target subject.target in
    omega arith

module _ (vault : VaultValue) (asked : Asked) where
  next_fewer : (b : Bool) (s : Snapshot) (reply : ReplyValue) → steps_left (if b then changing s else ended s.place false reply) ≤ 1
  unfolding steps_left
  next_fewer true s reply = omega arith
  next_fewer false s reply = omega arith

  next_left : (s : Snapshot) → steps_left (next_of s asked.call) ≤ 1
  next_left s = next_fewer (is_due s.records s.place asked.call) s (shown_in (world_of s) s.place asked.call)

  with_left : (s : Snapshot) (keys : List RoleKey) → steps_left (next_with s keys asked.call) ≤ length keys + 2
  unfolding steps_left
  with_left s [] = let few = next_left s in omega arith
  with_left s (key ∷ keys) = omega arith

  found_left : (subject : Subject) (hit : Bool) → steps_left (found_step vault asked.call (snapshot_for vault subject) hit).phase < 6
  unfolding steps_left
  found_left subject true = let few = next_left (snapshot_for vault subject) in omega arith
  found_left subject false = let few = few_halves subject in omega arith

  look_left : (found : Option Subject) → steps_left (look_step vault asked.call found).phase < 6
  unfolding steps_left
  look_left None = omega arith
  look_left (Some subject) = found_left subject (has_all vault.roles.entries (halves_of subject))

  first_left : (own : Option ReplyValue) → steps_left (first_step vault asked.call own).phase < 6
  unfolding steps_left
  first_left (Some reply) = omega arith
  first_left None = look_left (who vault.at.world.records asked.call.credentials asked.call.run_as asked.call.moment)

  publish_left : (s : Snapshot) (key : RoleKey) (keys : List RoleKey) (fresh : Bool) → steps_left (publish_step vault asked.call s key keys fresh).phase < length (key ∷ keys) + 2
  unfolding steps_left
  publish_left s key keys true = let few = with_left s keys in omega arith
  publish_left s key keys false = let few = with_left s keys in omega arith

  change_left : (outcome : Outcome) → steps_left (change_step vault outcome).phase < 1
  unfolding steps_left
  change_left (refused reply) = omega arith
  change_left (overfull reply) = omega arith
  change_left (accepted reply entry) = omega arith

  -- a step of a call that has not ended leaves fewer
  pub step_left : (phase : Phase) → next_step_of asked.call phase ≢ next.Done → steps_left (step_of vault asked phase).phase < steps_left phase
  unfolding steps_left step_of
  step_left begun going = first_left (static_of asked.call.request)
  step_left (publishing s []) going = let few = next_left s in omega arith
  step_left (publishing s (key ∷ keys)) going = publish_left s key keys (s.count == vault.roles.count)
  step_left (changing s) going = change_left (change_in vault.limit vault.at asked)
  step_left (ended place changed reply) going = absurd (going refl)
