-- The journal grows, and the world that it stands for.
use Rattle.std.proofs.Common.{◌≡◌, ◌≢◌, ℕ, ◌+◌, ◌<◌, ◌≤◌, Bool, true, false, List, [], ◌∷◌, ◌++◌, length, append-nil, filter, Option, Some, None, is_some, refl, sym, ap, subst, ◌∙◌}
use Rattle.es_edge.specs.declared.chance.Draw.{Draw}
use Rattle.es_edge.specs.declared.chance.Draw.TheVariants.{NotDrawn, Failed, Bytes}
use Rattle.es_edge.specs.Draws.{Lots, Draws}
use Rattle.es_edge.proofs.DrawLemmas.{Draws-none}
use Rattle.es_response.specs.Reply.{ReplyValue, response}
use Rattle.es_wire.specs.declared.request.RawRequest.{RawRequest}
use Rattle.es_wire.specs.declared.receipt.Receipt.{Receipt}
use Rattle.es_journal.proofs.Adding.{entry_list}
use Rattle.es_session.specs.Node.{Given}
use Rattle.es_session.specs.Legal.{HasMoment, given_of, drawn_for, is_drawn}
use Rattle.es_session.specs.Session.{IsAlone}
use Rattle.es_session.proofs.Stepping.{replies_one, alone_now}
use Rattle.es_request.specs.declared.call.Call.{Call}
use Rattle.es_request.specs.Requests.{draws, IsTimely}
use Rattle.es_route.specs.Reading as reading
use Rattle.es_vault.specs.World.{World, Entry, PlacedWorld, StandsFor, placed_after, replay, opening_entry}
use Rattle.es_vault.specs.Answer as vault_answer
use Rattle.es_vault.specs.Answer.{IsMade}
use Rattle.es_vault.specs.Replayable.{last_moment}
use Rattle.es_vault.proofs.Journal.{stands-push}
use Rattle.es_job.specs.Answer.{Answer, answer, answer_in}
use Rattle.es_drive.specs.Alone.{IsAnswered, world_after}
use Rattle.es_drive.specs.Answer.{call_of, node}
use Rattle.es_drive.specs.Turns.{caller, RepliesFrom}

-- after one change more, if there is one
stands_now : (w : World) (J : List Entry) (at : PlacedWorld) (o : Option Entry) → StandsFor w J at → StandsFor w (J ++ entry_list o) (world_after at o)
stands_now w J at None stands = subst (λ (K : List Entry). StandsFor w K at) (sym (append-nil J)) stands
stands_now w J at (Some e) stands = stands-push w J at e stands

-- the opening stands for itself
pub opening_stands : (w : World) (at : PlacedWorld) → at ≡ record { world = w; place = 1; weight = 0 } → StandsFor at.world (opening_entry ∷ []) at
unfolding replay
opening_stands w at is = record { world = refl; place = ap (λ (x : PlacedWorld). x.place) is; weight = ap (λ (x : PlacedWorld). x.weight) is }

-- a world that stands for a journal is the one at its end
placed_is : (w : World) (J : List Entry) (at : PlacedWorld) → StandsFor w J at → placed_after w J ≡ at
placed_is w J at stands = sym (λ i. record { world = stands.world i; place = stands.place i; weight = stands.weight i })

told_now : (limit : ℕ) (w : World) (J : List Entry) (at : PlacedWorld) (raw : RawRequest) (given : Given) → StandsFor w J at
    → answer limit w J (call_of caller raw given) ≡ answer_in limit at (call_of caller raw given)
unfolding answer
told_now limit w J at raw given stands = ap (λ (x : PlacedWorld). answer_in limit x (call_of caller raw given)) (placed_is w J at stands)

-- whether anything was drawn, in the words of the vault and in those of a session
drawn_alike : (draw : Draw) → vault_answer.is_drawn draw ≡ is_drawn draw
drawn_alike NotDrawn = refl
drawn_alike Failed = refl
drawn_alike (Bytes bytes) = refl

-- what a chance gives was drawn
pub was_drawn : (draw : Draw) → draw ≢ NotDrawn → is_drawn draw ≡ true
was_drawn NotDrawn some = absurd (some refl)
was_drawn Failed some = refl
was_drawn (Bytes bytes) some = refl

-- and is all that was drawn
pub drawn_alone : (draw : Draw) → is_drawn draw ≡ true → filter is_drawn (draw ∷ []) ≡ draw ∷ []
drawn_alone NotDrawn some = cc some
drawn_alone Failed some = refl
drawn_alone (Bytes bytes) some = refl

-- a request was answered, and its receipt kept
pub replies_from :
    (limit : ℕ) (w : World) (clock : Option ℕ) (J : List Entry) (at at' : PlacedWorld) (raw : RawRequest) (place : ℕ) (reply : ReplyValue) (changed : Bool)
    (rs ts : List Receipt) (lots lots' : Lots) (r : Receipt) (written : List ℕ)
    → StandsFor w J at → IsAnswered (answer_in limit at (call_of caller raw (given_of r))) place reply changed at at'
    → r.place ≡ at'.place → 0 < r.place → r.changed ≡ changed → is_drawn r.draw ≡ draws (reading.call_of raw r.moment r.draw).request
    → Draws lots lots' (filter is_drawn (r.draw ∷ [])) → HasMoment clock r → ts ≡ rs ++ r ∷ []
    → written ≡ response reply (Some r.place) raw.last → RepliesFrom limit w clock J at' raw rs ts lots lots' written
replies_from limit w clock J at at' raw place reply changed rs ts lots lots' r written stands answered here positive ch quiet drew moment kept text =
    let told : Answer = answer_in limit at (call_of caller raw (given_of r)) in
    let J' : List Entry = J ++ entry_list told.entry in
    let stands' : StandsFor w J' at' = subst (StandsFor w J') (sym answered.world) (stands_now w J at told.entry stands) in
    let same : r.changed ≡ is_some told.entry = ch ∙ answered.changed_is in
    let alone : IsAlone J J' rs ts = subst (IsAlone J J' rs) (sym kept) (alone_now J rs r told.entry same) in (
      J',
      record { stands = stands'; alone = alone },
      replies_one {N = node limit w} J J' raw (call_of caller raw) rs ts lots lots' r told written refl (told_now limit w J at raw (given_of r) stands) refl
          (here ∙ stands'.place) positive same moment quiet drew kept
          (text ∙ ap (λ (x : ReplyValue). response x (Some r.place) raw.last) answered.reply_is),
    )

module _ (raw : RawRequest) (moment : ℕ) (call : Call) (is : call ≡ reading.call_of raw moment NotDrawn) where
  -- the call with what was drawn for it
  pub drawn_is : (draw : Draw) → record call { draw = draw } ≡ reading.call_of raw moment draw
  unfolding reading.call_of
  drawn_is draw = ap (λ (x : Call). record x { draw = draw }) is

  undrawn : call.draw ≡ NotDrawn
  unfolding reading.call_of
  undrawn = ap (λ (x : Call). x.draw) is

  moment_is : call.moment ≡ moment
  unfolding reading.call_of
  moment_is = ap (λ (x : Call). x.moment) is

  -- the call for which nothing is drawn
  pub undrawn_is : call ≡ reading.call_of raw moment call.draw
  undrawn_is = is ∙ ap (reading.call_of raw moment) (sym undrawn)

  pub nothing_drawn : (lots : Lots) → Draws lots lots (filter is_drawn (call.draw ∷ []))
  nothing_drawn lots = rw undrawn (Draws-none lots)

  module _ (small : moment ≤ last_moment) (timely : IsTimely call.request) where
    pub made_drawn : (draw : Draw) → draws call.request ≡ true → draw ≢ NotDrawn → IsMade (record call { draw = draw })
    made_drawn draw so some = record { moment = rw moment_is small; timely = timely; drawn = drawn_alike draw ∙ was_drawn draw some ∙ sym so }

    pub made_undrawn : draws call.request ≡ false → IsMade call
    made_undrawn so = record { moment = rw moment_is small; timely = timely; drawn = ap vault_answer.is_drawn undrawn ∙ sym so }

-- it was drawn for exactly where its request draws
pub drawn_where : (raw : RawRequest) (moment : ℕ) (call : Call) → call ≡ reading.call_of raw moment call.draw → IsMade call → is_drawn call.draw ≡ draws (reading.call_of raw moment call.draw).request
drawn_where raw moment call is made = sym (drawn_alike call.draw) ∙ made.drawn ∙ ap (λ (x : Call). draws x.request) is

-- what a chance gave is all that was drawn
pub one_drawn : (lots lots' : Lots) (draw : Draw) → draw ≢ NotDrawn → Draws lots lots' (draw ∷ []) → Draws lots lots' (filter is_drawn (draw ∷ []))
one_drawn lots lots' draw some drew = subst (Draws lots lots') (sym (drawn_alone draw (was_drawn draw some))) drew
