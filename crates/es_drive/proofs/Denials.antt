-- What is refused, and what changes nothing.
use Rattle.std.proofs.Common.{◌≡◌, ℕ, Bool, true, false, Option, Some, None, refl, ap, if◌then◌else◌}
use Rattle.std.specs.Option.{option_or}
use Rattle.es_response.specs.Reply.{ReplyValue}
use Rattle.es_keys.specs.declared.kinds.Subject.{Subject}
use Rattle.es_request.specs.Requests.{is_change}
use Rattle.es_vault.specs.Decision.{Decision, no_caller, no_run_as, denied, denied_cluster, granted, decision, denial_of}
use Rattle.es_vault.specs.World.{Entry, PlacedWorld}
use Rattle.es_vault.specs.Answer.{Asked, change_in, told}
use Rattle.es_job.specs.Answer.{Answer, answer_in, done_in, read_for, stop_in, told_unless, refused, static_of, not_reached}
use Rattle.es_drive.specs.Laws.{StaticAnywhere, DeniedAnywhere, ChangesGranted}

none_some : {A B : Type 0} {x : A} → None ≡ Some x → B
none_some e = cc

-- what stops a call is told, and nothing else
pub stopped_told : (limit : ℕ) (at : PlacedWorld) (asked : Asked) (reply : ReplyValue) → stop_in at.world.records at.place asked.call ≡ Some reply → answer_in limit at asked ≡ refused reply
unfolding answer_in
stopped_told limit at asked reply stops = ap (λ (o : Option ReplyValue). told_unless o (done_in limit at asked)) stops

-- a request that is refused by its own text is refused so in every world, at every place
pub static_anywhere : StaticAnywhere
unfolding stop_in
static_anywhere limit at asked reply own =
    stopped_told limit at asked reply (ap (λ request. option_or (static_of request) (option_or (not_reached at.place asked.call.seen) (denial_of (decision at.world.records asked.call)))) own)

-- a denial is the same whatever indices and documents stand
pub denied_anywhere : DeniedAnywhere
unfolding stop_in
denied_anywhere limit at asked reply own reached denial =
    stopped_told limit at asked reply (rw (own, reached, denial) refl)

-- what has an entry isn't refused
not_refused : (o : Option ReplyValue) (answer : Answer) (e : Entry) → (told_unless o answer).entry ≡ Some e → (o ≡ None) × (answer.entry ≡ Some e)
not_refused None answer e changed = (refl, changed)
not_refused (Some reply) answer e changed = none_some changed

-- what stops nothing has none of three
none_of : (own behind denial : Option ReplyValue) → option_or own (option_or behind denial) ≡ None → (behind ≡ None) × (denial ≡ None)
none_of (Some reply) behind denial e = cc e
none_of None (Some reply) denial e = cc e
none_of None None denial e = (refl, e)

-- what isn't denied is granted
is_granted : (d : Decision) → denial_of d ≡ None → (subject : Subject) × (d ≡ granted subject)
is_granted no_caller e = cc e
is_granted (no_run_as caller target) e = cc e
is_granted (denied subject action index) e = cc e
is_granted (denied_cluster subject action) e = cc e
is_granted (granted subject) e = (subject, refl)

-- only a request for a change adds an entry
is_for_change : (changes : Bool) (change : Answer) (reply : ReplyValue) (e : Entry) → (if changes then change else refused reply).entry ≡ Some e → changes ≡ true
is_for_change true change reply e changed = refl
is_for_change false change reply e changed = none_some changed

-- nothing changes without a grant, and nothing but by a request for a change, at a place that its caller has not passed
pub changes_granted : ChangesGranted
unfolding answer_in stop_in
changes_granted limit at asked e changed =
    let open_now = not_refused (stop_in at.world.records at.place asked.call) (done_in limit at asked) e changed in
    let none = none_of (static_of asked.call.request) (not_reached at.place asked.call.seen) (denial_of (decision at.world.records asked.call)) open_now.0 in (
      is_granted (decision at.world.records asked.call) none.1,
      is_for_change (is_change asked.call.request) (told (change_in limit at asked)) (read_for at.world asked.call.request (decision at.world.records asked.call)) e open_now.1,
      none.0,
    )
