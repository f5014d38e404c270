-- What a look found is past in the journal that goes on from it.
use Rattle.std.proofs.Common.{◌≡◌, ℕ, ◌+◌, ◌≤◌, List, [], ◌∷◌, ◌++◌, take, drop, Option, Some, None, refl, sym, ap, subst, ◌∙◌, arith}
use Rattle.std.specs.Prelude.{IfSome}
use Rattle.std.proofs.lemmas.List.{take-append-drop, map-append}
use Rattle.es_records.specs.declared.change.SecurityChange.{SecurityChange}
use Rattle.es_records.specs.Laws.{records_after, count_of}
use Rattle.es_records.proofs.Lasting.{count_tells}
use Rattle.es_vault.specs.declared.look.Snapshot.{Snapshot}
use Rattle.es_vault.specs.World.{World, Change, opening, security, doc, Entry, opening_world, apply, replay_from, replay, security_in, securities, security_count}
use Rattle.es_vault.specs.Answer.{Asked}
use Rattle.es_vault.specs.Vault.{VaultValue, IsSoundFor}
use Rattle.es_job.specs.Steps.{Phase, begun, publishing, changing, ended, IsPast, HoldsPast}
use Rattle.es_job.specs.Core.{Task, Answered, State, IsOfPrefix, Holds, IsHeld, IsCore}

-- ---- the records after entries are those after their changes of users, roles and keys

one_more : (w : World) (n : ℕ) (c : Change) (cs : List (Option SecurityChange)) → records_after (apply w n c).records cs ≡ records_after w.records (security_in c ∷ cs)
one_more w n opening cs = refl
one_more w n (security change) cs = refl
one_more w n (doc change) cs = refl

records_from : (w : World) (n : ℕ) (J : List Entry) → (replay_from w n J).records ≡ records_after w.records (securities J)
records_from w n [] = refl
records_from w n (e ∷ J) = records_from (apply w (n + 1) e.change) (n + 1) J ∙ one_more w (n + 1) e.change (securities J)

records_are : (w : World) (J : List Entry) → (replay w J).records ≡ records_after w.records (securities J)
unfolding replay
records_are w J = records_from w 0 J

count_append : (cs ds : List (Option SecurityChange)) → count_of (cs ++ ds) ≡ count_of cs + count_of ds
count_append [] ds = omega arith
count_append (None ∷ cs) ds = count_append cs ds
count_append (Some change ∷ cs) ds = let more = count_append cs ds in omega (arith, more)

-- ---- the first entries

module _ (J : List Entry) (p : ℕ) where
  parts : securities (take p J) ++ securities (drop p J) ≡ securities J
  parts = sym (map-append (λ (e : Entry). security_in e.change) (take p J) (drop p J)) ∙ ap securities (take-append-drop p J)

  -- their count is no greater
  count_prefix : security_count (take p J) ≤ security_count J
  count_prefix =
      let whole : security_count J ≡ security_count (take p J) + count_of (securities (drop p J)) = ap count_of (sym parts) ∙ count_append (securities (take p J)) (securities (drop p J)) in
      omega (arith, whole)

  -- and where it is equal the records are
  records_prefix : (w : World) → security_count (take p J) ≡ security_count J → (replay w (take p J)).records ≡ (replay w J).records
  records_prefix w same =
      records_are w (take p J)
      ∙ sym (count_tells w.records (securities (take p J)) (securities (drop p J)) (ap count_of parts ∙ sym same))
      ∙ ap (records_after w.records) parts ∙ sym (records_are w J)

-- what a look found at a prefix is past
pub past_of : (secret : List ℕ) (J : List Entry) (vault : VaultValue) (s : Snapshot) → IsSoundFor secret J vault → IsOfPrefix (opening_world secret) J s → IsPast s vault
past_of secret J vault s sound prefix =
    let to = prefix.to in let place = sound.stands.place in let looked = prefix.count in let stands = sound.count in let least = count_prefix J s.place in
    record {
      place = omega (arith, to, place);
      count = omega (arith, looked, stands, least);
      same = λ same. prefix.records ∙ records_prefix J s.place (opening_world secret) (sym prefix.count ∙ same ∙ sound.count) ∙ ap (λ (w : World). w.records) (sym sound.stands.world);
    }

phase_past : (secret : List ℕ) (J : List Entry) (vault : VaultValue) (answered : List Answered) (asked : Asked) (phase : Phase) → IsSoundFor secret J vault
    → Holds (opening_world secret) J answered asked phase → HoldsPast phase vault
phase_past secret J vault answered asked begun sound holds = tt
phase_past secret J vault answered asked (publishing s keys) sound holds = past_of secret J vault s sound holds.0.prefix
phase_past secret J vault answered asked (changing s) sound holds = past_of secret J vault s sound holds.0.prefix
phase_past secret J vault answered asked (ended place changed reply) sound holds = tt

-- what a task holds is past
pub holds_past : (secret : List ℕ) (limit : ℕ) (S : State) (actor : ℕ) (task : Task) → IsCore secret limit S → S.tasks actor ≡ Some task → HoldsPast task.phase S.vault
holds_past secret limit S actor task core is =
    let held : IsHeld (opening_world secret) S.journal S.answered actor task = subst (λ o. IfSome o (IsHeld (opening_world secret) S.journal S.answered actor)) is (core.held actor) in
    phase_past secret S.journal S.vault S.answered task.asked task.phase core.sound held.phase
