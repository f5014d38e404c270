-- What always holds is kept by each move.
use Rattle.std.proofs.Common.{◌≡◌, ℕ, ◌+◌, ◌<◌, ◌≤◌, List, [], ◌∷◌, ◌++◌, length, take, Bool, true, false, Option, Some, None, refl, sym, ap, subst, ◌∙◌, arith, append-nil, length-append}
use Rattle.std.specs.Prelude.{⊤, ◌==◌, IfSome, if◌then◌else◌}
use Rattle.std.specs.FinMap as map
use Rattle.std.proofs.lemmas.Bool.{eqb-true, eqb-false}
use Rattle.std.proofs.lemmas.List.{take_all, append_assoc}
use Rattle.es_response.specs.Reply.{ReplyValue}
use Rattle.es_cred.specs.declared.users.UserRecord.{UserRecord}
use Rattle.es_keys.specs.declared.kinds.KeyRecord.{KeyRecord}
use Rattle.es_keys.specs.declared.kinds.RoleKey.{RoleKey}
use Rattle.es_keys.specs.declared.kinds.NamedPart.{NamedPart}
use Rattle.es_keys.specs.declared.kinds.Caller.{Caller}
use Rattle.es_keys.specs.declared.kinds.Caller.TheVariants as caller
use Rattle.es_keys.specs.declared.kinds.Target.{Target}
use Rattle.es_keys.specs.declared.kinds.Target.TheVariants as target
use Rattle.es_keys.specs.declared.kinds.Subject.{Subject}
use Rattle.es_keys.specs.Halves.{halves_of, key_halves, caller_halves, target_halves}
use Rattle.es_catalog.specs.Catalog.{text_cmp}
use Rattle.es_cred.specs.Names.{user_name}
use Rattle.es_records.specs.Records.{RecordsValue, IsNamed, who, opening_records, opening_user}
use Rattle.es_records.specs.Halves.{roles_of, target_name, IsOf}
use Rattle.es_records.specs.Laws.{IsStanding, listed}
use Rattle.es_records.proofs.Standing.{insert_own}
use Rattle.es_records.proofs.Lasting.{named_stays}
use Rattle.es_records.proofs.Deciding.{who_is_of, halves_tell}
use Rattle.es_request.specs.declared.call.Call.{Call}
use Rattle.es_vault.specs.declared.look.Snapshot.{Snapshot}
use Rattle.es_vault.specs.World.{World, Change, opening, security, doc, Entry, opening_world, apply, replay, placed_after, security_count, weight_of}
use Rattle.es_vault.specs.Answer.{Asked, IsMade, weight_limit, Outcome, refused, overfull, accepted, change_in, told}
use Rattle.es_vault.specs.Replayable.{FitsAt, IsReplayable}
use Rattle.es_vault.specs.Vault.{VaultValue, IsRight, IsSoundFor, has_all, brought_all, changed_by}
use Rattle.es_vault.specs.Steps.{snapshot_for}
use Rattle.es_vault.specs.Keys.{same_key}
use Rattle.es_cache.specs.Entries.{put_first}
use Rattle.es_vault.proofs.Journal.{always}
use Rattle.es_vault.proofs.Sound.{is_positive, sound_after, sound_with, right_put, right_brought}
use Rattle.es_job.specs.declared.note.Note.TheVariants.{Published}
use Rattle.es_job.specs.Answer.{static_of, is_due, answer, answer_in, shown_in}
use Rattle.es_job.specs.Steps.{Phase, begun, publishing, changing, ended, Stepped, step_of, world_of, next_of, next_with, leaves, found_step, look_step, first_step, publish_step, change_step}
use Rattle.es_job.specs.Core.{Task, Answered, State, Move, starts, steps, with_task, after_step, stepped_by, started_by, moved, after_moves, AllMade, opened, IsLegal, AllUpTo, HoldsLook, Holds, IsHeld, IsCore, Core}
use Rattle.es_job.proofs.Past.{past_of}
use Rattle.es_job.proofs.Legal.{told_changed, own_due, own_shown, unknown_due, due_is, due_reached, entry_fits, legal_unchanged, legal_shown}
use Rattle.es_job.proofs.Holding.{legal_push, legal_changed, all_up_to, AllBefore, before_same, before_last, ascending_push, held_grow}

-- ---- names

named_step : (w : World) (n : ℕ) (c : Change) → FitsAt (n + 1) c → IsNamed w.records → IsNamed (apply w (n + 1) c).records
named_step w n opening fits holds = absurd fits
named_step w n (security change) fits holds = named_stays w.records change holds
named_step w n (doc change) fits holds = holds

named_opening : (secret : List ℕ) → IsNamed (opening_records secret)
named_opening secret = record {
  users = insert_own (λ (u : UserRecord). u.person.username) map.empty (λ q. subst (λ (o : Option UserRecord). IfSome o (λ u. u.person.username ≡ q)) (sym (map.get-empty text_cmp q)) tt) user_name (opening_user secret) refl;
  keys = λ q. subst (λ (o : Option KeyRecord). IfSome o (λ k. k.id ≡ q)) (sym (map.get-empty text_cmp q)) tt;
}

named_after : (secret : List ℕ) (J : List Entry) → IsReplayable J → IsNamed (replay (opening_world secret) J).records
named_after secret J good = always (λ (n : ℕ) (w : World). IsNamed w.records) named_step secret J good (named_opening secret)

-- ---- the keys of a subject's halves stand

module _ (records : RecordsValue) where
  abbrev AllStand : List RoleKey → Type 0
  AllStand [] = ⊤
  AllStand (key ∷ keys) = IsStanding records key × AllStand keys

  stand_append : (keys others : List RoleKey) → AllStand keys → AllStand others → AllStand (keys ++ others)
  stand_append [] others stand more = more
  stand_append (key ∷ keys) others stand more = (stand.0, stand_append keys others stand.1 more)

  stand_rest : (keys others : List RoleKey) → AllStand (keys ++ others) → AllStand others
  stand_rest [] others stand = stand
  stand_rest (key ∷ keys) others stand = stand_rest keys others stand.1

  stand_listed : (key : Option RoleKey) → IfSome key (IsStanding records) → AllStand (listed key)
  stand_listed None stand = tt
  stand_listed (Some key) stand = (stand, tt)

  stand_target : (t : Target) → AllStand (listed (target_name t))
  stand_target target.Own = tt
  stand_target (target.As user) = (tt, tt)
  stand_target target.Unknown = tt

  stand_all : (subject : Subject) → IsOf records subject.caller → AllStand (halves_of subject)
  stand_all subject is =
      let has = halves_tell records subject is in
      subst AllStand (sym has.names) (has.first_stands, stand_append (listed _) (listed (target_name subject.target)) (stand_listed _ has.limit_stands) (stand_target subject.target))

-- there is a half
abbrev IsLong : List RoleKey → Type 0
IsLong keys = (first : RoleKey) × (others : List RoleKey) × (keys ≡ first ∷ others)

key_long : (id : List ℕ) (assigned : List NamedPart) (more : List RoleKey) → IsLong (key_halves id assigned ++ more)
key_long id [] more = (_, _, refl)
key_long id (first ∷ others) more = (_, _, refl)

caller_long : (c : Caller) (more : List RoleKey) → IsLong (caller_halves c ++ more)
caller_long (caller.User user) more = (_, _, refl)
caller_long (caller.Key kept) more = key_long kept.id kept.assigned more

halves_long : (subject : Subject) → IsLong (halves_of subject)
unfolding halves_of
halves_long subject = caller_long subject.caller (target_halves subject.target)

-- ---- a move

module _ (secret : List ℕ) (limit : ℕ) (S : State) (core : IsCore secret limit S) where
  abbrev Held : ℕ → Task → Type 0
  Held actor task = IsHeld (opening_world secret) S.journal S.answered actor task

  -- an actor holds a task now
  held_on : (vault : VaultValue) (actor : ℕ) (task : Task) → IsSoundFor secret S.journal vault → vault.limit ≡ limit → Held actor task
      → IsCore secret limit (record { journal = S.journal; vault = vault; tasks = with_task S.tasks actor (Some task); answered = S.answered })
  held_on vault actor task sound same held =
      record { sound = sound; limit_is = same; legal = core.legal; ascending = core.ascending; held = λ other. either other (other == actor) refl }
    where
      either : (other : ℕ) (b : Bool) → (other == actor) ≡ b → IfSome (if b then Some task else S.tasks other) (Held other)
      either other true is = subst (λ (n : ℕ). Held n task) (sym (eqb-true other actor is)) held
      either other false is = core.held other

  -- the call of an actor is answered
  ended_on : (E : List Entry) (vault : VaultValue) (actor : ℕ) (a : Answered) → IsSoundFor secret (S.journal ++ E) vault → vault.limit ≡ limit → a.asked.caller ≡ actor
      → IsLegal limit (opening_world secret) (S.journal ++ E) a → AllBefore S.answered a
      → IsCore secret limit (record { journal = S.journal ++ E; vault = vault; tasks = with_task S.tasks actor None; answered = S.answered ++ a ∷ [] })
  ended_on E vault actor a sound same own legal before = record {
    sound = sound;
    limit_is = same;
    legal = legal_push limit (opening_world secret) S.journal E S.answered a core.legal legal;
    ascending = ascending_push S.answered a core.ascending before;
    held = λ other. either other (other == actor) refl;
  }
    where
      others : (other : ℕ) (o : Option Task) → (other ≡ actor → ⊥) → IfSome o (Held other) → IfSome o (IsHeld (opening_world secret) (S.journal ++ E) (S.answered ++ a ∷ []) other)
      others other None differ held = tt
      others other (Some task) differ held = held_grow (opening_world secret) S.journal E S.answered a other task (λ is. differ (sym is ∙ own)) held

      either : (other : ℕ) (b : Bool) → (other == actor) ≡ b → IfSome (if b then None else S.tasks other) (IsHeld (opening_world secret) (S.journal ++ E) (S.answered ++ a ∷ []) other)
      either other true is = tt
      either other false is = others other (S.tasks other) (eqb-false other actor is) (core.held other)

  ended_same : (vault : VaultValue) (actor : ℕ) (a : Answered) → IsSoundFor secret S.journal vault → vault.limit ≡ limit → a.asked.caller ≡ actor
      → IsLegal limit (opening_world secret) S.journal a → AllBefore S.answered a
      → IsCore secret limit (record { journal = S.journal; vault = vault; tasks = with_task S.tasks actor None; answered = S.answered ++ a ∷ [] })
  ended_same vault actor a sound same own legal before =
      subst (λ (J : List Entry). IsCore secret limit (record { journal = J; vault = vault; tasks = with_task S.tasks actor None; answered = S.answered ++ a ∷ [] })) (append-nil S.journal)
      (ended_on [] vault actor a (subst (λ (J : List Entry). IsSoundFor secret J vault) (sym (append-nil S.journal)) sound) same own
      (subst (λ (J : List Entry). IsLegal limit (opening_world secret) J a) (sym (append-nil S.journal)) legal) before)

  -- ---- the vault as it is now

  place_is : S.vault.at.place ≡ length S.journal
  place_is = core.sound.stands.place

  whole : take S.vault.at.place S.journal ≡ S.journal
  whole = let place = place_is in take_all S.vault.at.place S.journal (omega (arith, place))

  world_is : S.vault.at.world ≡ replay (opening_world secret) (take S.vault.at.place S.journal)
  world_is = core.sound.stands.world ∙ ap (replay (opening_world secret)) (sym whole)

  within : S.vault.at.place ≤ length S.journal
  within = let place = place_is in omega (arith, place)

  positive : 0 < S.vault.at.place
  positive = is_positive secret S.journal S.vault core.sound

  seen_now : (caller : ℕ) → AllUpTo S.answered caller S.vault.at.place
  seen_now caller = subst (AllUpTo S.answered caller) (sym place_is) (all_up_to limit (opening_world secret) S.journal S.answered caller core.legal)

  named_now : IsNamed S.vault.at.world.records
  named_now = subst (λ (w : World). IsNamed w.records) (sym core.sound.stands.world) (named_after secret S.journal core.sound.replayable)

  module _ (actor : ℕ) (asked : Asked) (own : asked.caller ≡ actor) (made : IsMade asked.call) where
    abbrev KeptBy : Stepped → Type 0
    KeptBy stepped = IsCore secret limit (after_step S actor asked stepped)

    -- it ends now, at the present place, whatever the step notes
    ends_now : (reply : ReplyValue) → is_due S.vault.at.world.records S.vault.at.place asked.call ≡ false → reply ≡ shown_in S.vault.at.world S.vault.at.place asked.call
        → KeptBy (leaves S.vault Published (ended S.vault.at.place false reply))
    ends_now reply due shown =
        ended_same S.vault actor _ core.sound core.limit_is own
        (legal_shown limit (opening_world secret) S.journal asked S.vault.at.world S.vault.at.place positive within world_is reply due shown) (before_same S.answered _ refl (seen_now asked.caller))

    -- it goes on with what it holds
    goes_on : (vault : VaultValue) (phase : Phase) → IsSoundFor secret S.journal vault → vault.limit ≡ limit → Holds (opening_world secret) S.journal S.answered asked phase
        → IsCore secret limit (record { journal = S.journal; vault = vault; tasks = with_task S.tasks actor (Some (record { asked = asked; phase = phase })); answered = S.answered ++ [] })
    goes_on vault phase sound same holds =
        subst (λ (calls : List Answered). IsCore secret limit (record { journal = S.journal; vault = vault; tasks = with_task S.tasks actor (Some (record { asked = asked; phase = phase })); answered = calls })) (sym (append-nil S.answered))
        (held_on vault actor (record { asked = asked; phase = phase }) sound same (record { caller = own; made = made; phase = holds }))

    -- each half is at hand
    next_keeps : (vault : VaultValue) (s : Snapshot) → IsSoundFor secret S.journal vault → vault.limit ≡ limit → HoldsLook (opening_world secret) S.journal S.answered asked s
        → KeptBy (record { note = Published; vault = vault; phase = next_of s asked.call; added = None })
    next_keeps vault s sound same look = either (is_due s.records s.place asked.call) refl
      where
        either : (b : Bool) → is_due s.records s.place asked.call ≡ b → KeptBy (record { note = Published; vault = vault; phase = if b then changing s else ended s.place false (shown_in (world_of s) s.place asked.call); added = None })
        either true is = goes_on vault (changing s) sound same (look, is)
        either false is =
            ended_same vault actor _ sound same own
            (legal_shown limit (opening_world secret) S.journal asked (world_of s) s.place look.prefix.from look.prefix.to (λ i. record { records = look.prefix.records i; catalog = look.prefix.catalog i }) _ is refl)
            (before_same S.answered _ refl look.seen)

    with_keeps : (vault : VaultValue) (s : Snapshot) (keys : List RoleKey) → IsSoundFor secret S.journal vault → vault.limit ≡ limit → HoldsLook (opening_world secret) S.journal S.answered asked s
        → (before : List RoleKey) → before ++ keys ≡ halves_of s.subject → KeptBy (record { note = Published; vault = vault; phase = next_with s keys asked.call; added = None })
    with_keeps vault s [] sound same look before all = next_keeps vault s sound same look
    with_keeps vault s (key ∷ keys) sound same look before all = goes_on vault (publishing s (key ∷ keys)) sound same (look, record { done = before; all = all; first = key; others = keys; some = refl })

    -- ---- a look

    look_now : (subject : Subject) → static_of asked.call.request ≡ None → who S.vault.at.world.records asked.call.credentials asked.call.run_as asked.call.moment ≡ Some subject
        → HoldsLook (opening_world secret) S.journal S.answered asked (snapshot_for S.vault subject)
    look_now subject none known = record {
      prefix = record {
        from = positive;
        to = within;
        records = ap (λ (w : World). w.records) world_is;
        catalog = ap (λ (w : World). w.catalog) world_is;
        count = core.sound.count ∙ ap security_count (sym whole);
      };
      own = none;
      known = known;
      is_of = who_is_of S.vault.at.world.records asked.call.credentials asked.call.run_as asked.call.moment subject named_now known;
      seen = seen_now asked.caller;
    }

    found_keeps : (subject : Subject) (hit : Bool) → HoldsLook (opening_world secret) S.journal S.answered asked (snapshot_for S.vault subject) → KeptBy (found_step S.vault asked.call (snapshot_for S.vault subject) hit)
    found_keeps subject true look =
        next_keeps _ (snapshot_for S.vault subject)
        (sound_with secret S.journal S.vault core.sound (brought_all (halves_of subject) S.vault.roles.entries) (right_brought S.vault.at.world.records (halves_of subject) S.vault.roles.entries core.sound.right))
        core.limit_is look
    found_keeps subject false look =
        let long = halves_long subject in
        goes_on S.vault (publishing (snapshot_for S.vault subject) (halves_of subject)) core.sound core.limit_is (look, record { done = []; all = refl; first = long.0; others = long.1; some = long.2 })

    look_keeps : (found : Option Subject) → static_of asked.call.request ≡ None → who S.vault.at.world.records asked.call.credentials asked.call.run_as asked.call.moment ≡ found → KeptBy (look_step S.vault asked.call found)
    look_keeps None none known = ends_now _ (unknown_due S.vault.at.world.records S.vault.at.place asked.call known) refl
    look_keeps (Some subject) none known = found_keeps subject (has_all S.vault.roles.entries (halves_of subject)) (look_now subject none known)

    first_keeps : (static : Option ReplyValue) → static_of asked.call.request ≡ static → KeptBy (first_step S.vault asked.call static)
    first_keeps (Some reply) is =
        ends_now reply (own_due S.vault.at.world.records S.vault.at.place asked.call reply is) (sym (own_shown S.vault.at.world.records S.vault.at.place asked.call S.vault.at.world refl reply is))
    first_keeps None is = look_keeps (who S.vault.at.world.records asked.call.credentials asked.call.run_as asked.call.moment) is refl

    -- ---- a composed role is published

    publish_keeps : (s : Snapshot) (key : RoleKey) (keys : List RoleKey) (b : Bool) → (s.count == S.vault.roles.count) ≡ b → HoldsLook (opening_world secret) S.journal S.answered asked s
        → (before : List RoleKey) → before ++ key ∷ keys ≡ halves_of s.subject → KeptBy (publish_step S.vault asked.call s key keys b)
    publish_keeps s key keys true is look before all =
        let same = (past_of secret S.journal S.vault s core.sound look.prefix).same (eqb-true s.count S.vault.roles.count is) in
        let stand : AllStand s.records (key ∷ keys) = stand_rest s.records before (key ∷ keys) (subst (AllStand s.records) (sym all) (stand_all s.records s.subject look.is_of)) in
        let right : IsRight S.vault.at.world.records (key, roles_of s.records key) = record { roles = ap (λ (r : RecordsValue). roles_of r key) same; stands = subst (λ (r : RecordsValue). IsStanding r key) same stand.0 } in
        with_keeps _ s keys
        (sound_with secret S.journal S.vault core.sound (put_first same_key S.vault.roles.capacity key (roles_of s.records key) S.vault.roles.entries) (right_put secret S.journal S.vault core.sound key (roles_of s.records key) right))
        core.limit_is look (before ++ key ∷ []) (append_assoc before (key ∷ []) keys ∙ all)
    publish_keeps s key keys false is look before all = with_keeps S.vault s keys core.sound core.limit_is look (before ++ key ∷ []) (append_assoc before (key ∷ []) keys ∙ all)

    -- ---- a change

    at_is : S.vault.at ≡ placed_after (opening_world secret) S.journal
    at_is = λ i. record { world = core.sound.stands.world i; place = core.sound.stands.place i; weight = core.sound.stands.weight i }

    -- it is answered as it comes to
    told_now : (s : Snapshot) → HoldsLook (opening_world secret) S.journal S.answered asked s → is_due s.records s.place asked.call ≡ true
        → answer limit (opening_world secret) S.journal asked ≡ told (change_in S.vault.limit S.vault.at asked)
    unfolding answer
    told_now s look due =
        (λ i. answer_in (sym core.limit_is i) (sym at_is i) asked)
        ∙ told_changed S.vault.limit S.vault.at asked look.own (due_is s.records s.place asked.call due).0
        (due_reached s.records s.place asked.call look.own due S.vault.at.place (past_of secret S.journal S.vault s core.sound look.prefix).place)

    unchanged_keeps : (reply : ReplyValue) → answer limit (opening_world secret) S.journal asked ≡ record { reply = reply; entry = None } → KeptBy (leaves S.vault Published (ended S.vault.at.place false reply))
    unchanged_keeps reply is =
        ended_same S.vault actor _ core.sound core.limit_is own
        (legal_unchanged limit (opening_world secret) S.journal asked S.vault.at.place reply positive within (ap (λ (J : List Entry). answer limit (opening_world secret) J asked) whole ∙ is))
        (before_same S.answered _ refl (seen_now asked.caller))

    change_keeps : (outcome : Outcome) → change_in S.vault.limit S.vault.at asked ≡ outcome → answer limit (opening_world secret) S.journal asked ≡ told outcome → KeptBy (change_step S.vault outcome)
    change_keeps (refused reply) comes is = unchanged_keeps reply is
    change_keeps (overfull reply) comes is = unchanged_keeps reply is
    change_keeps (accepted reply e) comes is =
        let fits = entry_fits S.vault.limit S.vault.at asked reply e made comes in
        let long : length (S.journal ++ e ∷ []) ≡ S.vault.at.place + 1 = let place = place_is in omega (arith, place, length-append S.journal (e ∷ [])) in
        let place = place_is in
        ended_on (e ∷ []) (changed_by S.vault e) actor (record { asked = asked; place = S.vault.at.place + 1; changed = true; reply = reply })
        (sound_after secret S.journal S.vault core.sound e fits.0 fits.1) core.limit_is own
        (subst (λ (n : ℕ). IsLegal limit (opening_world secret) (S.journal ++ e ∷ []) (record { asked = asked; place = n; changed = true; reply = reply })) long (legal_changed limit (opening_world secret) S.journal asked reply e is))
        (before_last limit (opening_world secret) S.journal S.answered _ core.legal (omega (arith, place)))

    -- ---- any step

    no_keys : {X : Type 0} (first : RoleKey) (others : List RoleKey) → [] ≡ first ∷ others → X
    no_keys first others is = absurd (cc)

    step_keeps : (phase : Phase) → Holds (opening_world secret) S.journal S.answered asked phase → KeptBy (step_of S.vault asked phase)
    unfolding step_of
    step_keeps begun holds = first_keeps (static_of asked.call.request) refl
    step_keeps (publishing s []) holds = no_keys holds.1.first holds.1.others holds.1.some
    step_keeps (publishing s (key ∷ keys)) holds = publish_keeps s key keys (s.count == S.vault.roles.count) refl holds.0 holds.1.done holds.1.all
    step_keeps (changing s) holds = change_keeps (change_in S.vault.limit S.vault.at asked) refl (told_now s holds.0 holds.1)
    step_keeps (ended place changed reply) holds = absurd holds

  started_keeps : (actor : ℕ) (call : Call) (o : Option Task) → IsMade call → IsCore secret limit (started_by S actor call o)
  started_keeps actor call None made =
      held_on S.vault actor (record { asked = record { caller = actor; call = call }; phase = begun }) core.sound core.limit_is (record { caller = refl; made = made; phase = tt })
  started_keeps actor call (Some task) made = core

  stepped_keeps : (actor : ℕ) (o : Option Task) → IfSome o (Held actor) → IsCore secret limit (stepped_by S actor o)
  stepped_keeps actor None held = core
  stepped_keeps actor (Some task) held = step_keeps actor task.asked held.caller held.made task.phase held.phase

-- a call that is started is as calls are made
abbrev pub MoveMade : Move → Type 0
MoveMade (starts actor call) = IsMade call
MoveMade (steps actor) = ⊤

-- each move keeps it
pub moved_keeps : (secret : List ℕ) (limit : ℕ) (S : State) (move : Move) → IsCore secret limit S → MoveMade move → IsCore secret limit (moved S move)
moved_keeps secret limit S (starts actor call) core made = started_keeps secret limit S core actor call (S.tasks actor) made
moved_keeps secret limit S (steps actor) core made = stepped_keeps secret limit S core actor (S.tasks actor) (core.held actor)

-- and so do all of them
pub moves_keep : (secret : List ℕ) (limit : ℕ) (S : State) (moves : List Move) → IsCore secret limit S → AllMade moves → IsCore secret limit (after_moves S moves)
moves_keep secret limit S [] core made = core
moves_keep secret limit S (starts actor call ∷ moves) core made = moves_keep secret limit (moved S (starts actor call)) moves (moved_keeps secret limit S (starts actor call) core made.0) made.1
moves_keep secret limit S (steps actor ∷ moves) core made = moves_keep secret limit (moved S (steps actor)) moves (moved_keeps secret limit S (steps actor) core tt) made

-- it holds when a node opens
pub opened_core : (secret : List ℕ) (limit capacity : ℕ) (J : List Entry) → IsReplayable J → length J ≤ limit → limit ≤ 200000 → weight_of J ≤ weight_limit → IsCore secret limit (opened secret limit capacity J)
opened_core secret limit capacity J good room most weight = record {
  sound = record {
    replayable = good;
    stands = record { world = refl; place = refl; weight = refl };
    count = refl;
    right = λ k d there. absurd (omega (arith, there));
    room = room;
    limit = most;
    weight = weight;
  };
  limit_is = refl;
  legal = tt;
  ascending = tt;
  held = λ actor. tt;
}

-- the law of the core
pub core_law : Core
core_law secret limit capacity J moves good room most weight made = moves_keep secret limit (opened secret limit capacity J) moves (opened_core secret limit capacity J good room most weight) made
