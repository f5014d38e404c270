-- A call that is run alone: what its steps leave, and whether they hit.
use Rattle.std.proofs.Common.{◌≡◌, ◌≢◌, ℕ, zero, suc, ◌+◌, ◌<◌, ◌≤◌, Bool, true, false, List, [], ◌∷◌, Option, Some, None, refl, sym, ap, subst, ◌∙◌, arith, if◌then◌else◌}
use Rattle.std.specs.Prelude.{◌==◌, ◌||◌}
use Rattle.es_response.specs.Reply.{ReplyValue}
use Rattle.es_keys.specs.declared.kinds.RoleKey.{RoleKey}
use Rattle.es_keys.specs.declared.kinds.Subject.{Subject}
use Rattle.es_keys.specs.Halves.{halves_of}
use Rattle.es_records.specs.Records.{who}
use Rattle.es_request.specs.declared.call.Call.{Call}
use Rattle.es_vault.specs.declared.look.Snapshot.{Snapshot}
use Rattle.es_vault.specs.World.{PlacedWorld}
use Rattle.es_vault.specs.Answer.{Asked, Outcome, refused, overfull, accepted, change_in}
use Rattle.es_vault.specs.Vault.{VaultValue, has_all}
use Rattle.es_vault.specs.Steps.{snapshot_for}
use Rattle.es_job.specs.declared.note.Note.{Note}
use Rattle.es_job.specs.declared.note.NextStep.TheVariants as next
use Rattle.es_job.specs.Answer.{static_of, is_due, shown_in}
use Rattle.es_job.specs.Steps.{Phase, begun, publishing, changing, ended, world_of, next_with, first_step, look_step, found_step, publish_step, change_step, step_of, next_step_of, steps_left, most_steps, is_hit}
use Rattle.es_job.specs.Job.{JobValue}
use Rattle.es_job.proofs.Fewer.{step_left}
use Rattle.es_drive.specs.Alone.{IsStepped, RunsAlone}
use Rattle.es_drive.specs.Hits.{count_of, left_by}
use Rattle.es_drive.specs.Tallies.{IsRunOut, IsFresh, IsOnWay}

module _ (vault : VaultValue) (asked : Asked) where
  next_fresh : (b hit : Bool) (s : Snapshot) (reply : ReplyValue) → IsFresh (if b then changing s else ended s.place false reply) hit
  next_fresh true hit s reply = tt
  next_fresh false hit s reply = tt

  with_fresh : (s : Snapshot) (keys : List RoleKey) (hit : Bool) → IsFresh (next_with s keys asked.call) hit
  with_fresh s [] hit = next_fresh (is_due s.records s.place asked.call) hit s (shown_in (world_of s) s.place asked.call)
  with_fresh s (key ∷ keys) hit = tt

  found_fresh : (s : Snapshot) (found hit : Bool) → IsFresh (found_step vault asked.call s found).phase hit
  found_fresh s true hit = with_fresh s [] hit
  found_fresh s false hit = tt

  look_fresh : (found : Option Subject) (hit : Bool) → IsFresh (look_step vault asked.call found).phase hit
  look_fresh None hit = tt
  look_fresh (Some subject) hit = found_fresh (snapshot_for vault subject) (has_all vault.roles.entries (halves_of subject)) hit

  first_fresh : (own : Option ReplyValue) (hit : Bool) → IsFresh (first_step vault asked.call own).phase hit
  first_fresh (Some reply) hit = tt
  first_fresh None hit = look_fresh (who vault.at.world.records asked.call.credentials asked.call.run_as asked.call.moment) hit

  publish_fresh : (s : Snapshot) (key : RoleKey) (keys : List RoleKey) (same hit : Bool) → IsFresh (publish_step vault asked.call s key keys same).phase hit
  publish_fresh s key keys true hit = with_fresh s keys hit
  publish_fresh s key keys false hit = with_fresh s keys hit

  change_fresh : (outcome : Outcome) (hit : Bool) → IsFresh (change_step vault outcome).phase hit
  change_fresh (refused reply) hit = tt
  change_fresh (overfull reply) hit = tt
  change_fresh (accepted reply entry) hit = tt

  -- after a step no call has only begun
  step_fresh : (phase : Phase) (hit : Bool) → IsFresh (step_of vault asked phase).phase hit
  unfolding step_of
  step_fresh begun hit = first_fresh (static_of asked.call.request) hit
  step_fresh (publishing s []) hit = with_fresh s [] hit
  step_fresh (publishing s (key ∷ keys)) hit = publish_fresh s key keys (s.count == vault.roles.count) hit
  step_fresh (changing s) hit = change_fresh (change_in vault.limit vault.at asked) hit
  step_fresh (ended place changed reply) hit = tt

  publish_unnoted : (s : Snapshot) (key : RoleKey) (keys : List RoleKey) (same : Bool) → is_hit (publish_step vault asked.call s key keys same).note ≡ false
  publish_unnoted s key keys true = refl
  publish_unnoted s key keys false = refl

  change_unnoted : (outcome : Outcome) → is_hit (change_step vault outcome).note ≡ false
  change_unnoted (refused reply) = refl
  change_unnoted (overfull reply) = refl
  change_unnoted (accepted reply entry) = refl

  -- only one of two counts
  first_counts : (hit more : Bool) → hit ≡ false → count_of hit + count_of more ≡ count_of (hit || more)
  first_counts true more none = cc none
  first_counts false more none = omega arith

  later_counts : (hit more : Bool) → more ≡ false → count_of hit + count_of more ≡ count_of (hit || more)
  later_counts hit true none = cc none
  later_counts true false none = refl
  later_counts false false none = refl

  -- only the first step of a call can hit
  step_counts : (phase : Phase) (hit : Bool) → IsFresh phase hit → count_of hit + count_of (is_hit (step_of vault asked phase).note) ≡ count_of (hit || is_hit (step_of vault asked phase).note)
  unfolding step_of
  step_counts begun hit fresh = first_counts hit (is_hit (first_step vault asked.call (static_of asked.call.request)).note) fresh
  step_counts (publishing s []) hit fresh = later_counts hit false refl
  step_counts (publishing s (key ∷ keys)) hit fresh =
      later_counts hit (is_hit (publish_step vault asked.call s key keys (s.count == vault.roles.count)).note) (publish_unnoted s key keys (s.count == vault.roles.count))
  step_counts (changing s) hit fresh =
      later_counts hit (is_hit (change_step vault (change_in vault.limit vault.at asked)).note) (change_unnoted (change_in vault.limit vault.at asked))
  step_counts (ended place changed reply) hit fresh = later_counts hit false refl

-- a call that has ended leaves all as it is
ended_vault : (count : ℕ) (vault : VaultValue) (asked : Asked) (place : ℕ) (changed : Bool) (reply : ReplyValue) → (left_by count vault asked (ended place changed reply)).vault ≡ vault
unfolding left_by step_of
ended_vault zero vault asked place changed reply = refl
ended_vault (suc count) vault asked place changed reply = ended_vault count vault asked place changed reply

ended_hits : (count : ℕ) (vault : VaultValue) (asked : Asked) (place : ℕ) (changed : Bool) (reply : ReplyValue) → (left_by count vault asked (ended place changed reply)).hits ≡ 0
unfolding left_by step_of
ended_hits zero vault asked place changed reply = refl
ended_hits (suc count) vault asked place changed reply = let rest = ended_hits count vault asked place changed reply in omega arith

counted_on : (all noted more both rest : ℕ) → all ≡ noted + (more + rest) → noted + more ≡ both → all ≡ both + rest
counted_on all noted more both rest is sum = omega arith

-- a call begins
way_begins : (vault : VaultValue) (asked : Asked) → IsOnWay vault vault asked begun false
unfolding steps_left
way_begins vault asked = record { count = most_steps; enough = omega arith; vault_is = refl; hits_are = omega arith; fresh = refl }

module _ (old vault : VaultValue) (asked : Asked) (phase : Phase) (hit : Bool) where
  -- the next step
  way_step : (count : ℕ) → steps_left phase ≤ count → (left_by most_steps old asked begun).vault ≡ (left_by count vault asked phase).vault
      → (left_by most_steps old asked begun).hits ≡ count_of hit + (left_by count vault asked phase).hits → IsFresh phase hit
      → steps_left (step_of vault asked phase).phase < steps_left phase
      → IsOnWay old (step_of vault asked phase).vault asked (step_of vault asked phase).phase (hit || is_hit (step_of vault asked phase).note)
  unfolding left_by
  way_step zero enough vault_is hits_are fresh fewer = absurd (omega arith)
  way_step (suc count) enough vault_is hits_are fresh fewer = record {
    count = count;
    enough = omega arith;
    vault_is = vault_is;
    hits_are = counted_on (left_by most_steps old asked begun).hits (count_of hit) (count_of (is_hit (step_of vault asked phase).note)) (count_of (hit || is_hit (step_of vault asked phase).note))
        (left_by count (step_of vault asked phase).vault asked (step_of vault asked phase).phase).hits hits_are (step_counts vault asked phase hit fresh);
    fresh = step_fresh vault asked phase (hit || is_hit (step_of vault asked phase).note);
  }

  way_more : IsOnWay old vault asked phase hit → next_step_of asked.call phase ≢ next.Done
      → IsOnWay old (step_of vault asked phase).vault asked (step_of vault asked phase).phase (hit || is_hit (step_of vault asked phase).note)
  way_more way going = way_step way.count way.enough way.vault_is way.hits_are way.fresh (step_left vault asked phase going)

-- and ends
way_ends : (old vault : VaultValue) (asked : Asked) (place : ℕ) (changed : Bool) (reply : ReplyValue) (hit : Bool) → IsOnWay old vault asked (ended place changed reply) hit
    → IsRunOut old asked vault (count_of hit)
way_ends old vault asked place changed reply hit way = (
  sym (way.vault_is ∙ ended_vault way.count vault asked place changed reply),
  (let none = ended_hits way.count vault asked place changed reply in let all = way.hits_are in omega arith),
)

abbrev asked_by : ℕ → Call → Asked
asked_by caller call = record { caller = caller; call = call }

-- the same of a job
abbrev pub Noted : VaultValue → Call → VaultValue → JobValue → Type 0
Noted old call vault job = (caller : ℕ) → IsOnWay old vault (asked_by caller call) job.phase job.hit

pub noted_begun : (call : Call) (vault : VaultValue) (job : JobValue) → job ≡ record { call = call; phase = begun; turns = 0; hit = false; ready = true } → Noted vault call vault job
noted_begun call vault job is caller = subst (λ (j : JobValue). IsOnWay vault vault (asked_by caller call) j.phase j.hit) (sym is) (way_begins vault (asked_by caller call))

-- equal notes hit alike
pub hits_alike : (old : Bool) (n n' : Note) → n ≡ n' → (old || is_hit n) ≡ (old || is_hit n')
hits_alike old n n' noted = ap (λ (x : Note). old || is_hit x) noted

module _ (limit : ℕ) (at : PlacedWorld) (old : VaultValue) (call : Call) (vault : VaultValue) (job : JobValue) (runs : RunsAlone limit at call vault job) (noted : Noted old call vault job) where
  pub noted_more : next_step_of job.call job.phase ≢ next.Done → (job' : JobValue) (vault' : VaultValue)
      → ((caller : ℕ) → IsStepped (step_of vault (asked_by caller job.call) job.phase) job job' vault') → Noted old call vault' job'
  noted_more going job' vault' stepped caller =
      let still : next_step_of call job.phase ≢ next.Done = subst (λ (c : Call). next_step_of c job.phase ≢ next.Done) runs.call_is going in
      let was : IsStepped (step_of vault (asked_by caller call) job.phase) job job' vault' =
      subst (λ (c : Call). IsStepped (step_of vault (asked_by caller c) job.phase) job job' vault') runs.call_is (stepped caller) in
      rw (was.left, was.phase, was.hit) (way_more old vault (asked_by caller call) job.phase job.hit (noted caller) still)

  pub noted_done : (place : ℕ) (changed : Bool) (reply : ReplyValue) (hit : Bool) → job.phase ≡ ended place changed reply → hit ≡ job.hit
      → (caller : ℕ) → IsRunOut old (asked_by caller call) vault (count_of hit)
  noted_done place changed reply hit is hit_is caller =
      rw hit_is (way_ends old vault (asked_by caller call) place changed reply job.hit
      (subst (λ (phase : Phase). IsOnWay old vault (asked_by caller call) phase job.hit) is (noted caller)))
