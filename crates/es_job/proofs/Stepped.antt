-- What each step makes of a job.
use Rattle.std.proofs.Common.{◌≡◌, ◌≢◌, ℕ, ◌+◌, ◌≤◌, ◌==◌, List, [], ◌∷◌, map as list_map, length, All, Bool, true, false, Option, Some, None, option_map, is_some, Bor, refl, sym, ap, ap₂, subst, ◌∙◌, arith}
use Rattle.std.specs.Prelude.{if◌then◌else◌}
use Rattle.std.specs.Option.{option_copied}
use Rattle.std.proofs.lemmas.Bool.{eqb-true, eqb-false, eq-eqb, ne_eqb}
use Rattle.std.proofs.lemmas.List.Elements.{All-same, All-head, All-tail, All-nil}
use Rattle.es_response.specs.Reply.{ReplyValue}
use Rattle.es_role.specs.declared.kinds.Descriptor.{Descriptor}
use Rattle.es_keys.specs.declared.kinds.RoleKey.{RoleKey}
use Rattle.es_keys.specs.declared.kinds.Subject.{Subject}
use Rattle.es_keys.specs.Halves.{halves_of}
use Rattle.es_decide.specs.declared.kinds.Halves.{Halves}
use Rattle.es_records.specs.Records.{RecordsValue, who}
use Rattle.es_records.specs.Halves.{halves_in, IsOf}
use Rattle.es_cache.specs.declared.published.Published.{Published}
use Rattle.es_cache.specs.declared.published.Published.TheVariants.{Put, Stale}
use Rattle.es_cache.specs.Publishing.{answer_at}
use Rattle.es_request.specs.declared.call.Call.{Call}
use Rattle.es_vault.specs.declared.look.Snapshot.{Snapshot}
use Rattle.es_vault.specs.declared.look.Look.TheVariants as look
use Rattle.es_vault.specs.declared.changing.ChangeAnswer.TheVariants as change_answer
use Rattle.es_vault.specs.declared.names.HalfKeys.{HalfKeys}
use Rattle.es_vault.specs.Answer.{Outcome, refused, overfull, accepted, change_in}
use Rattle.es_vault.specs.Decision.{decision, granted}
use Rattle.es_vault.specs.Names.{key_list}
use Rattle.es_vault.specs.Vault.{VaultValue, IsRight, has_all, with_role}
use Rattle.es_vault.specs.Steps.{Looks, Changes, snapshot_for}
use Rattle.es_vault.proofs.Looking.{listed_keys}
use Rattle.es_job.specs.declared.note.Note.{Note}
use Rattle.es_job.specs.declared.note.Note.TheVariants as note
use Rattle.es_job.specs.declared.due.Due.{Due}
use Rattle.es_job.specs.declared.due.Pair.{Pair}
use Rattle.es_job.specs.declared.work.Work.{Work}
use Rattle.es_job.specs.declared.work.Work.TheVariants as work
use Rattle.es_job.specs.declared.stepping.Step.{Step}
use Rattle.es_job.specs.Answer.{static_of, is_due, shown_in}
use Rattle.es_job.specs.Due.{pair_of, due_pairs, due_keys, first_of, rest_of}
use Rattle.es_job.specs.Steps.{publishing, changing, ended, Stepped, world_of, next_with, found_step, look_step, first_step, publish_step, change_step, step_of, is_publishing, ready_after, IsPast}
use Rattle.es_job.specs.Job.{HasHalves, HasTurns, IsLooked, IsStep, phase_as, unknown_at}
use Rattle.es_job.proofs.Facts.{shown_unknown, granted_there, reached_there, due_open}
use Rattle.es_job.proofs.Told.{none_left}

-- a step of the same meaning
same_step : (call : Call) (one other : Stepped) (step : Step) (turns : ℕ) (new : VaultValue) → other ≡ one → IsStep call one step turns new → IsStep call other step turns new
same_step call one other step turns new same is = subst (λ (st : Stepped). IsStep call st step turns new) (sym same) is

-- ---- looks

module _ (call : Call) (vault new : VaultValue) (own : static_of call.request ≡ None) where
  abbrev asks : Option Subject
  asks = who vault.at.world.records call.credentials call.run_as call.moment

  known_there : (s : Snapshot) → asks ≡ Some s.subject → s ≡ snapshot_for vault s.subject → IsOf s.records s.subject.caller → IsLooked call s
  known_there s is at of = record {
    own = own;
    known = ap (λ (t : Snapshot). who t.records call.credentials call.run_as call.moment) at ∙ is;
    is_of = of;
  }

  found_is : (s : Snapshot) (cached : Bool) → asks ≡ Some s.subject → s ≡ snapshot_for vault s.subject → has_all vault.roles.entries (halves_of s.subject) ≡ cached → first_step vault call None ≡ found_step vault call s cached
  found_is s cached is at all =
      ap (look_step vault call) is ∙ ap (λ (t : Snapshot). found_step vault call t (has_all vault.roles.entries (halves_of s.subject))) (sym at) ∙ ap (found_step vault call s) all

  -- each half is at hand
  pub look_hit : (s : Snapshot) (halves : Halves) (due : Due) → Looks vault new asks (look.Hit s halves) → IsOf s.records s.subject.caller → due_pairs due ≡ []
      → IsStep call (first_step vault call None) (record { note = note.Hit s.place s.count; work = work.Looked s halves due }) 0 new
  look_hit s halves due looks of none =
      let records : vault.at.world.records ≡ s.records = sym (ap (λ (t : Snapshot). t.records) looks.1) in
      let few : length (due_pairs due) ≡ 0 = ap (λ (pairs : List (RoleKey × List Descriptor)). length pairs) none in
      same_step call (found_step vault call s true) _ _ 0 new (found_is s true looks.0 looks.1 looks.2) (record {
        noted = refl;
        left = looks.4;
        phase = none_left call s due none;
        ready = ap (λ (pairs : List (RoleKey × List Descriptor)). is_some (first_of pairs)) none;
        good = (
          record { looked = known_there s looks.0 looks.1 of; halves_are = looks.3 ∙ ap (λ (r : RecordsValue). halves_in r s.subject) records },
          All-same (IsRight s.records) _ _ none (All-nil (IsRight s.records)),
        );
        few = omega (arith, few);
      })

  -- one isn't, or several
  pub look_miss : (s : Snapshot) (keys : HalfKeys) → Looks vault new asks (look.Miss s keys) → IsOf s.records s.subject.caller
      → IsStep call (first_step vault call None) (record { note = note.Miss s.place s.count; work = work.Missed s keys }) 0 new
  look_miss s keys looks of =
      same_step call (found_step vault call s false) _ _ 0 new (found_is s false looks.0 looks.1 looks.2) (record {
        noted = refl;
        left = looks.4;
        phase = ap (publishing s) (ap key_list looks.3 ∙ listed_keys s.records s.subject of);
        ready = refl;
        good = (known_there s looks.0 looks.1 of, looks.3);
        few = refl;
      })

  -- nobody known asks
  pub look_unknown : (place : ℕ) → Looks vault new asks (look.Unknown place) → IsStep call (first_step vault call None) (record { note = note.Unknown place; work = work.Unknown place }) 0 new
  look_unknown place looks =
      let shown = shown_unknown vault.at.world vault.at.place call own looks.0 in
      same_step call (look_step vault call None) _ _ 0 new (ap (look_step vault call) looks.0) (record {
        noted = ap note.Unknown looks.1;
        left = looks.2;
        phase = ap (λ (p : ℕ). ended p false (unknown_at p call)) looks.1 ∙ ap (ended vault.at.place false) shown;
        ready = refl;
        good = tt;
        few = refl;
      })

-- ---- a composed role is published

put_at : (began stands : ℕ) → answer_at began stands ≡ Put → began ≡ stands
put_at began stands is = either (began == stands) refl is
  where
    either : (b : Bool) → (began == stands) ≡ b → (if b then Put else Stale began stands) ≡ Put → began ≡ stands
    either true same is = eqb-true began stands same
    either false same is = cc is

stale_at : (began stands b s : ℕ) → answer_at began stands ≡ Stale b s → (began ≢ stands) × (b ≡ began) × (s ≡ stands)
stale_at began stands b s is = either (began == stands) refl is
  where
    either : (t : Bool) → (began == stands) ≡ t → (if t then Put else Stale began stands) ≡ Stale b s → (began ≢ stands) × (b ≡ began) × (s ≡ stands)
    either true same is = cc is
    either false same is = (eqb-false began stands same, cc is, cc is)

-- nothing else to be published means that no composed role is
is_left : (s : Snapshot) (keys : List RoleKey) (call : Call) → is_publishing (next_with s keys call) ≡ is_some (first_of keys)
is_left s [] call = either (is_due s.records s.place call)
  where
    either : (b : Bool) → is_publishing (if b then changing s else ended s.place false (shown_in (world_of s) s.place call)) ≡ false
    either true = refl
    either false = refl
is_left s (key ∷ keys) call = refl

some_names : (pairs : List (RoleKey × List Descriptor)) → is_some (first_of (list_map (λ pair. pair.0) pairs)) ≡ is_some (first_of pairs)
some_names [] = refl
some_names (pair ∷ pairs) = refl

module _ (call : Call) (s : Snapshot) (halves : Halves) (due : Due) (has : HasHalves call s halves) (right : All (IsRight s.records) (due_pairs due)) where
  -- the next pair is right in the vault's records, where the counts are the same
  pub right_there : (vault : VaultValue) (pair : RoleKey × List Descriptor) (rest : List (RoleKey × List Descriptor)) → due_pairs due ≡ pair ∷ rest → IsPast s vault → s.count ≡ vault.roles.count → IsRight vault.at.world.records pair
  right_there vault pair rest is past same =
      subst (λ (r : RecordsValue). IsRight r pair) (past.same same) (All-head (IsRight s.records) pair rest (All-same (IsRight s.records) _ _ (sym is) right))

  module _ (vault new : VaultValue) (share : Snapshot) (again : Halves) (left : Due) (pair : RoleKey × List Descriptor) (rest : List (RoleKey × List Descriptor))
      (is : due_pairs due ≡ pair ∷ rest) (same : share ≡ s) (same_halves : again ≡ halves) (left_is : due_pairs left ≡ rest) where
    abbrev keys : List RoleKey
    keys = list_map (λ pair. pair.0) rest

    step_is : (caller : ℕ) (counts : Bool) → (s.count == vault.roles.count) ≡ counts
        → step_of vault (record { caller = caller; call = call }) (next_with s (due_keys due) call) ≡ publish_step vault call s pair.0 keys counts
    unfolding step_of
    step_is caller counts are =
        ap (λ (pairs : List (RoleKey × List Descriptor)). step_of vault (record { caller = caller; call = call }) (next_with s (list_map (λ pair. pair.0) pairs) call)) is
        ∙ ap (publish_step vault call s pair.0 keys) are

    -- what a step makes that goes on with the rest
    goes_on : (n : Note) (stepped : Stepped) (turns : ℕ) → n ≡ stepped.note → new ≡ stepped.vault → stepped.phase ≡ next_with s keys call → ready_after n stepped.phase ≡ is_publishing stepped.phase
        → turns + length (due_pairs due) ≤ 4 → IsStep call stepped (record { note = n; work = work.Looked share again left }) turns new
    goes_on n stepped turns noted left_so phase ready few =
        let counted : length (due_pairs due) ≡ length (pair ∷ rest) = ap (λ (pairs : List (RoleKey × List Descriptor)). length pairs) is in
        let lefts : length (due_pairs left) ≡ length rest = ap (λ (pairs : List (RoleKey × List Descriptor)). length pairs) left_is in
        subst (λ (t : Snapshot). IsStep call stepped (record { note = n; work = work.Looked t again left }) turns new) (sym same)
        (subst (λ (h : Halves). IsStep call stepped (record { note = n; work = work.Looked s h left }) turns new) (sym same_halves) (record {
          noted = noted;
          left = left_so;
          phase = ap (λ (pairs : List (RoleKey × List Descriptor)). next_with s (list_map (λ pair. pair.0) pairs) call) left_is ∙ sym phase;
          ready =
              ap (λ (pairs : List (RoleKey × List Descriptor)). is_some (first_of pairs)) left_is ∙ sym (some_names rest) ∙ sym (is_left s keys call) ∙ sym (ap is_publishing phase) ∙ sym ready;
          good = (has, All-same (IsRight s.records) _ _ left_is (All-tail (IsRight s.records) pair rest (All-same (IsRight s.records) _ _ (sym is) right)));
          few = omega (arith, few, counted, lefts);
        }))

    pub publish_put : answer_at s.count vault.roles.count ≡ Put → (s.count ≡ vault.roles.count → new ≡ with_role vault pair.0 pair.1) → (caller turns : ℕ) → turns + length (due_pairs due) ≤ 4
        → IsStep call (step_of vault (record { caller = caller; call = call }) (next_with s (due_keys due) call)) (record { note = note.Published; work = work.Looked share again left }) turns new
    publish_put answer put caller turns few =
        let counts = put_at s.count vault.roles.count answer in
        let first = All-head (IsRight s.records) pair rest (All-same (IsRight s.records) _ _ (sym is) right) in
        same_step call (publish_step vault call s pair.0 keys true) _ _ turns new (step_is caller true (eq-eqb s.count vault.roles.count counts))
        (goes_on note.Published (publish_step vault call s pair.0 keys true) turns refl (put counts ∙ ap (with_role vault pair.0) first.roles) refl refl few)

    pub publish_stale : (began stands : ℕ) → answer_at s.count vault.roles.count ≡ Stale began stands → (s.count ≢ vault.roles.count → new ≡ vault) → (caller turns : ℕ) → turns + length (due_pairs due) ≤ 4
        → IsStep call (step_of vault (record { caller = caller; call = call }) (next_with s (due_keys due) call)) (record { note = note.Stale began stands; work = work.Looked share again left }) turns new
    publish_stale began stands answer stale caller turns few =
        let told = stale_at s.count vault.roles.count began stands answer in
        same_step call (publish_step vault call s pair.0 keys false) _ _ turns new (step_is caller false (ne_eqb s.count vault.roles.count told.0))
        (goes_on (note.Stale began stands) (publish_step vault call s pair.0 keys false) turns (ap₂ note.Stale told.1 told.2) (stale told.0) refl refl few)

-- ---- a change

module _ (call : Call) (vault new : VaultValue) (outcome : Outcome) (turns : ℕ) (few : turns ≤ 4) where
  pub change_made : (place : ℕ) (reply : ReplyValue) → Changes vault new outcome (change_answer.Changed place reply)
      → IsStep call (change_step vault outcome) (record { note = note.Changed place; work = work.Ended place true (Some reply) }) turns new
  change_made place reply made =
      let there : place ≡ vault.at.place + 1 = made.3 ∙ ap (λ (v : VaultValue). v.at.place) made.2 in
      same_step call (change_step vault (accepted reply made.0)) _ _ turns new (ap (change_step vault) made.1) (record {
        noted = ap note.Changed there;
        left = made.2;
        phase = ap (λ (p : ℕ). ended p true reply) there;
        ready = refl;
        good = tt;
        few = omega (arith, few);
      })

  pub change_refused : (place : ℕ) (reply : ReplyValue) → Changes vault new outcome (change_answer.Refused place reply)
      → IsStep call (change_step vault outcome) (record { note = note.Refused place; work = work.Ended place false (Some reply) }) turns new
  change_refused place reply made =
      same_step call (change_step vault (refused reply)) _ _ turns new (ap (change_step vault) made.0) (record {
        noted = ap note.Refused made.2;
        left = made.1;
        phase = ap (λ (p : ℕ). ended p false reply) made.2;
        ready = refl;
        good = tt;
        few = omega (arith, few);
      })

  pub change_full : (place : ℕ) (reply : ReplyValue) → Changes vault new outcome (change_answer.Full place reply)
      → IsStep call (change_step vault outcome) (record { note = note.Full place; work = work.Ended place false (Some reply) }) turns new
  change_full place reply made =
      same_step call (change_step vault (overfull reply)) _ _ turns new (ap (change_step vault) made.0) (record {
        noted = ap note.Full made.2;
        left = made.1;
        phase = ap (λ (p : ℕ). ended p false reply) made.2;
        ready = refl;
        good = tt;
        few = omega (arith, few);
      })

-- a due change is of a place that is reached, and granted where the counts are the same
module _ (call : Call) (s : Snapshot) (vault : VaultValue) (looked : IsLooked call s) (due : is_due s.records s.place call ≡ true) (past : IsPast s vault) where
  pub due_reached : call.seen ≤ vault.at.place
  due_reached = let least = reached_there call s looked (due_open s.records s.place call due) in let behind = past.place in omega (arith, least, behind)

  pub due_granted : s.count ≡ vault.roles.count → decision vault.at.world.records call ≡ granted s.subject
  due_granted same = ap (λ (r : RecordsValue). decision r call) (sym (past.same same)) ∙ granted_there call s looked (due_open s.records s.place call due)

-- ---- what is next to be published

pub next_first : {X : Type 0} (xs : List X) (x : X) → Some x ≡ first_of xs → xs ≡ x ∷ rest_of xs
next_first [] x is = cc is
next_first (y ∷ ys) x is = let same : x ≡ y = cc is in ap (λ z. z ∷ ys) (sym same)

none_first : {X : Type 0} (xs : List X) → is_some (first_of xs) ≡ false → xs ≡ []
none_first [] none = refl
none_first (x ∷ xs) none = cc none

pub next_none : (next : Option (Bor Pair)) (pairs : List (RoleKey × List Descriptor)) → is_some next ≡ false → option_map pair_of (option_copied next) ≡ first_of pairs → pairs ≡ []
next_none None pairs none is = none_first pairs (ap is_some (sym is))
next_none (Some pair) pairs none is = cc none

-- ---- the next step, by where the work is

module _ (call : Call) (now one : Work) (there : now ≡ one) (vault new : VaultValue) (caller turns : ℕ) (step : Step) where
  pub at_work : (HasTurns one turns → IsStep call (step_of vault (record { caller = caller; call = call }) (phase_as call one)) step turns new)
      → HasTurns now turns → IsStep call (step_of vault (record { caller = caller; call = call }) (phase_as call now)) step turns new
  at_work made = subst (λ (w : Work). HasTurns w turns → IsStep call (step_of vault (record { caller = caller; call = call }) (phase_as call w)) step turns new) (sym there) made

  pub at_begun : one ≡ work.Begun → IsStep call (first_step vault call (static_of call.request)) step 0 new
      → HasTurns now turns → IsStep call (step_of vault (record { caller = caller; call = call }) (phase_as call now)) step turns new
  unfolding step_of
  at_begun is made =
      subst (λ (w : Work). HasTurns w turns → IsStep call (step_of vault (record { caller = caller; call = call }) (phase_as call w)) step turns new) (sym (there ∙ is))
      (λ none. subst (λ (n : ℕ). IsStep call (first_step vault call (static_of call.request)) step n new) (sym none) made)

  pub at_changing : (s : Snapshot) (halves : Halves) → one ≡ work.Changing s halves
      → (turns ≤ 4 → IsStep call (change_step vault (change_in vault.limit vault.at (record { caller = caller; call = call }))) step turns new)
      → HasTurns now turns → IsStep call (step_of vault (record { caller = caller; call = call }) (phase_as call now)) step turns new
  unfolding step_of
  at_changing s halves is made =
      subst (λ (w : Work). HasTurns w turns → IsStep call (step_of vault (record { caller = caller; call = call }) (phase_as call w)) step turns new) (sym (there ∙ is)) made
