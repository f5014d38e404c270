-- A call on a vault that nobody else uses: what it holds stays past.
use Rattle.std.proofs.Common.{◌≡◌, ◌≢◌, ◌∙◌, ℕ, ◌==◌, ◌<◌, ◌≤◌, Bool, true, false, List, [], ◌∷◌, Option, Some, None, refl, sym, ap, subst, arith}
use Rattle.std.specs.Prelude.{if◌then◌else◌}
use Rattle.es_response.specs.Reply.{ReplyValue}
use Rattle.es_keys.specs.declared.kinds.RoleKey.{RoleKey}
use Rattle.es_keys.specs.declared.kinds.Subject.{Subject}
use Rattle.es_records.specs.Records.{who}
use Rattle.es_request.specs.declared.call.Call.{Call}
use Rattle.es_request.specs.declared.request.Request.{Request}
use Rattle.es_request.specs.declared.request.Request.TheVariants as request
use Rattle.es_request.specs.Requests.{draws, IsTimely}
use Rattle.es_vault.specs.declared.look.Snapshot.{Snapshot}
use Rattle.es_vault.specs.Answer.{Asked, Outcome, refused, overfull, accepted, change_in}
use Rattle.es_vault.specs.Vault.{VaultValue, has_all}
use Rattle.es_vault.specs.Steps.{snapshot_for}
use Rattle.es_vault.specs.World.{PlacedWorld}
use Rattle.es_job.specs.Answer.{static_of, is_due}
use Rattle.es_job.specs.declared.note.Note.{Note}
use Rattle.es_job.specs.declared.note.NextStep.TheVariants as next
use Rattle.es_job.specs.Job.{JobValue, HasStepped}
use Rattle.es_job.proofs.Fewer.{step_left}
use Rattle.es_job.specs.Steps.{Phase, begun, publishing, changing, ended, next_step_of, steps_left, next_of, next_with, first_step, look_step, found_step, publish_step, change_step, step_of, IsPast, HoldsPast}

-- a request that draws nothing asks for no key
pub undrawn_timely : (r : Request) → draws r ≡ false → IsTimely r
undrawn_timely (request.Refused reply) none = tt
undrawn_timely (request.CreateIndex name mapping) none = tt
undrawn_timely (request.DeleteIndex name) none = tt
undrawn_timely (request.GetMapping name) none = tt
undrawn_timely (request.Put name id document only_new) none = tt
undrawn_timely (request.Get name id) none = tt
undrawn_timely (request.Delete name id) none = tt
undrawn_timely (request.PutRole name role) none = tt
undrawn_timely (request.GetRole name) none = tt
undrawn_timely (request.DeleteRole name) none = tt
undrawn_timely (request.PutUser user) none = tt
undrawn_timely (request.GetUser name) none = tt
undrawn_timely (request.DeleteUser name) none = tt
undrawn_timely (request.CreateKey asked) none = cc none
undrawn_timely (request.ListKeys owner) none = tt
undrawn_timely (request.Invalidate ids owner) none = tt
undrawn_timely request.Authenticate none = tt
undrawn_timely (request.ClearCache names every) none = tt

module _ (call : Call) where
  next_past : (s : Snapshot) (vault : VaultValue) (due : Bool) (reply : ReplyValue) → IsPast s vault → HoldsPast (if due then changing s else ended s.place false reply) vault
  next_past s vault true reply past = past
  next_past s vault false reply past = tt

  due_past : (s : Snapshot) (vault : VaultValue) → IsPast s vault → HoldsPast (next_of s call) vault
  due_past s vault past = next_past s vault (is_due s.records s.place call) _ past

  with_past : (s : Snapshot) (keys : List RoleKey) (vault : VaultValue) → IsPast s vault → HoldsPast (next_with s keys call) vault
  with_past s [] vault past = due_past s vault past
  with_past s (key ∷ keys) vault past = past

  -- what a look finds is past in any vault with its world and its count
  look_past : (vault new : VaultValue) (subject : Subject) → new.at ≡ vault.at → new.roles.count ≡ vault.roles.count → IsPast (snapshot_for vault subject) new
  look_past vault new subject at count = record {
    place = subst (λ (n : ℕ). vault.at.place ≤ n) (ap (λ (x : PlacedWorld). x.place) (sym at)) (omega arith);
    count = omega (arith, count);
    same = λ same. ap (λ (x : PlacedWorld). x.world.records) (sym at);
  }

  found_past : (vault : VaultValue) (subject : Subject) (hit : Bool) → HoldsPast (found_step vault call (snapshot_for vault subject) hit).phase (found_step vault call (snapshot_for vault subject) hit).vault
  found_past vault subject true = due_past _ _ (look_past vault _ subject refl refl)
  found_past vault subject false = look_past vault vault subject refl refl

  sought_past : (vault : VaultValue) (found : Option Subject) → HoldsPast (look_step vault call found).phase (look_step vault call found).vault
  sought_past vault None = tt
  sought_past vault (Some subject) = found_past vault subject (has_all vault.roles.entries _)

  first_past : (vault : VaultValue) (own : Option ReplyValue) → HoldsPast (first_step vault call own).phase (first_step vault call own).vault
  first_past vault (Some reply) = tt
  first_past vault None = sought_past vault (who vault.at.world.records call.credentials call.run_as call.moment)

  publish_past : (vault : VaultValue) (s : Snapshot) (key : RoleKey) (keys : List RoleKey) (fresh : Bool) → IsPast s vault
      → HoldsPast (publish_step vault call s key keys fresh).phase (publish_step vault call s key keys fresh).vault
  publish_past vault s key keys true past = with_past s keys _ (record { place = past.place; count = past.count; same = past.same })
  publish_past vault s key keys false past = with_past s keys vault past

change_past : (vault : VaultValue) (outcome : Outcome) → HoldsPast (change_step vault outcome).phase (change_step vault outcome).vault
change_past vault (refused reply) = tt
change_past vault (overfull reply) = tt
change_past vault (accepted reply e) = tt

-- what a call holds after its step is past in the vault that the step left
pub step_past : (vault : VaultValue) (asked : Asked) (phase : Phase) → HoldsPast phase vault → HoldsPast (step_of vault asked phase).phase (step_of vault asked phase).vault
unfolding step_of
step_past vault asked begun past = first_past asked.call vault (static_of asked.call.request)
step_past vault asked (publishing s []) past = due_past asked.call s vault past
step_past vault asked (publishing s (key ∷ keys)) past = publish_past asked.call vault s key keys (s.count == vault.roles.count) past
step_past vault asked (changing s) past = change_past vault (change_in vault.limit vault.at asked)
step_past vault asked (ended place changed reply) past = tt

-- a step, and the work behind it
module _ (vault new : VaultValue) (old job job' : JobValue) (n : Note)
    (stepped : (caller : ℕ) → HasStepped (step_of vault (record { caller = caller; call = old.call }) old.phase) n old job new) (worked : job' ≡ record job { ready = true }) where
  abbrev its_call : Asked
  its_call = record { caller = 0; call = old.call }

  phase_is : job'.phase ≡ (step_of vault its_call old.phase).phase
  phase_is = ap (λ (j : JobValue). j.phase) worked ∙ (stepped 0).phase

  pub worked_past : HoldsPast old.phase vault → HoldsPast job'.phase new
  worked_past past =
      subst (λ (q : Phase). HoldsPast q new) (sym phase_is) (subst (λ (v : VaultValue). HoldsPast (step_of vault its_call old.phase).phase v) (sym (stepped 0).left) (step_past vault its_call old.phase past))

  pub worked_fewer : next_step_of old.call old.phase ≢ next.Done → steps_left job'.phase < steps_left old.phase
  worked_fewer open_ = subst (λ (q : Phase). steps_left q < steps_left old.phase) (sym phase_is) (step_left vault its_call old.phase open_)
