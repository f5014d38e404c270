-- Each move keeps the rule.
use Rattle.std.proofs.Common.{◌≡◌, ◌≢◌, ℕ, zero, suc, ◌+◌, ◌<◌, ◌≤◌, List, [], ◌∷◌, ◌++◌, length, set, sym, refl, ap, ◌∙◌, subst, arith, inl, inr, ⊎_elim, eqb}
use mathlib.Core.List.{IsPrefix}
use mathlib.Core.Option.{some, none, some-injective, some-ne-none}
use mathlib.Core.Option as maybe
use prog.Atomic.{either}
use lib.ListN.{get_elem?}
use Rattle.atomic_table.specs.Table.{State, Me, Act, keeps, takes, gives, Valid, Allows, step}
use Rattle.atomic_table.proofs.Lists.{at_set, at_snoc, set_else, set_again, exchanged, at_longer}
use Rattle.es_gate.specs.declared.tickets.Stage.{Stage}
use Rattle.es_gate.specs.declared.tickets.Stage.TheVariants.{Idle, Waiting, Served}
use Rattle.es_gate.specs.declared.tickets.View.{View}
use Rattle.es_gate.specs.Turns.{HasTicket, tickets, Placed, Fits, Seats, Slot, Kept, view, drawn}
use Rattle.es_gate.proofs.Seating.{tickets_set, tickets_snoc, reseat}
use Rattle.std.proofs.Common.{Bool, true, false}
use Rattle.std.proofs.Math.Nat.{mod-eq_of_lt}
use Rattle.std.proofs.lemmas.Bool.{ltb-true, ltb-false}
use Rattle.std.proofs.Common.{length-append, ltb, get_or, ◌%◌, ◌^◌}
use Rattle.std.specs.Bool.{if◌then◌else◌}
use mathlib.Core.Logic.{dite}
use native.Mathlib.Decide.{ℕ_discrete}
use Rattle.atomic_table.specs.Table.{homes_after, carried_after, Splits, Joins, opening}
use Rattle.es_gate.specs.Turns.{number, start_of, looked, added, left, learned, longer, fresh, both, spent, starting}
use Rattle.es_gate.proofs.Seating.{NotServed, idle_not, waiting_not, spent_not, not_served, has_range, placed_drawn, placed_grown, placed_left, opening_is, set_seen, served_has, alone}
use Rattle.es_gate.proofs.Prefixes.{prefix_self, prefix_trans, prefix_shorter}

module _ {S E : Type 0} (lies : ℕ → List E → S → Type 0) where
  -- the slot, where a seat that is not served has a new view with which it is not served
  pub slot_same : (o : ℕ) (log : List E) (homes : List (maybe.Option S)) (views : List (View E)) (id : ℕ) (v w : View E) → get_elem? views id ≡ some v
      → NotServed v.stage → NotServed w.stage → Slot lies o log homes views → Slot lies o log homes (set views id w)
  slot_same o log homes views id v w at before after (inl h) =
      inl (h.0, h.1, h.2, λ j n start u g e. ⊎_elim (λ (f : (j ≡ id) × (w ≡ u)). after n start (ap (λ (z : View E). z.stage) f.1 ∙ e)) (λ (f : (j ≢ id) × (get_elem? views j ≡ some u)). h.3 j n start u f.1 e) (at_set views id j w u g))
  slot_same o log homes views id v w at before after (inr h) =
      let there : ¬ (h.1.0 ≡ id) = λ e. before h.1.2 h.1.3 (ap (λ (z : View E). z.stage) (some-injective v h.1.1 (sym at ∙ (ap (λ (k : ℕ). get_elem? views k) (sym e) ∙ h.1.4))) ∙ h.1.5) in
      inr (h.0, (h.1.0, h.1.1, h.1.2, h.1.3, set_else views id h.1.0 w there ∙ h.1.4, h.1.5))

  -- the list grows while a seat has the slot
  pub slot_taken : (o : ℕ) (log log' : List E) (homes : List (maybe.Option S)) (views views' : List (View E)) (id n start : ℕ) (v w : View E) → get_elem? views id ≡ some v → v.stage ≡ Served n start
      → get_elem? views' id ≡ some w → w.stage ≡ Served n start → Slot lies o log homes views → Slot lies o log' homes views'
  slot_taken o log log' homes views views' id n start v w at is at' is' (inl h) = absurd (h.3 id n start v at is)
  slot_taken o log log' homes views views' id n start v w at is at' is' (inr h) = inr (h.0, (id, w, n, start, at', is'))

module _ {S E : Type 0} (lies : ℕ → List E → S → Type 0) (from : List E) (slots id : ℕ) (m : Me S (View E)) where
  -- the counts of the first three words stay, and the seats and the slot keep the rule
  with_seats : (s : State S (View E)) (k : Kept lies from s) (wakes words : List ℕ) (homes : List (maybe.Option S)) (views : List (View E))
      → words ≡ k.ticket ∷ k.serving ∷ length k.log ∷ wakes → Seats (length from) k.ticket k.serving k.log views → Slot lies (length from) k.log homes views
      → Kept lies from (record { words = words; homes = homes; views = views })
  with_seats s k wakes words homes views is seats slot =
      record { ticket = k.ticket; serving = k.serving; log = k.log; wakes = wakes; words = is; small = k.small; begins = k.begins; seats = seats; slot = slot }

  -- the seat is as before
  same_seat : (s : State S (View E)) (k : Kept lies from s) (wakes : List ℕ) → get_elem? s.views id ≡ some m.0
      → Kept lies from (record { words = k.ticket ∷ k.serving ∷ length k.log ∷ wakes; homes = s.homes; views = set s.views id m.0 })
  same_seat s k wakes at =
      subst (λ (vs : List (View E)). Kept lies from (record { words = k.ticket ∷ k.serving ∷ length k.log ∷ wakes; homes = s.homes; views = vs })) (sym (set_again s.views id m.0 at))
      (with_seats s k wakes _ _ _ refl k.seats k.slot)

  abbrev DrawGoal : (old : ℕ) (s : State S (View E)) → (ticket serving : ℕ) → List ℕ → List E → ℕ → Type 0
  DrawGoal old s ticket serving wakes log new = (w : View E) × (a : Act S) × Valid s.homes m.1 a
      × Kept lies from (record { words = new ∷ serving ∷ length log ∷ wakes; homes = homes_after s.homes m.1 a; views = set s.views id w })
      × drawn (step slots 0 old (old + 1) none) m ticket (w, carried_after m.1 a)

  pub draws : m.0.stage ≡ Idle → (old : ℕ) → old < 18446744073709551615
      → Allows (Kept lies from) slots id m 0 (λ n. either (eqb n old) (old + 1) n) (drawn (step slots 0 old (old + 1) none) m)
  draws idle old room s k len at small =
      let P : List ℕ → Type 0 = λ ws. (w : View E) × (a : Act S) × Valid s.homes m.1 a
      × Kept lies from (record { words = set ws 0 (either (eqb (get_or ws 0 0) old) (old + 1) (get_or ws 0 0)); homes = homes_after s.homes m.1 a; views = set s.views id w })
      × drawn (step slots 0 old (old + 1) none) m (get_or ws 0 0) (w, carried_after m.1 a) in
      subst P (sym k.words) (exchanged k.ticket old (old + 1) (DrawGoal old s k.ticket k.serving k.wakes k.log)
      (λ e.
      let w : View E = view (Waiting k.ticket) m.0.seen m.0.found m.0.opening in
      let mine = k.seats.each id m.0 at in
      let from_is = opening_is (length from) k.ticket k.serving k.log m.0.seen m.0.opening Idle (subst (Placed (length from) k.ticket k.serving k.log m.0.seen m.0.opening) idle mine.1) (λ f. absurd cc) in
      let le : k.serving ≤ k.ticket = let c = k.seats.counted in omega (arith, c) in (
        w,
        keeps,
        tt,
        record {
          ticket = old + 1;
          serving = k.serving;
          log = k.log;
          wakes = k.wakes;
          words = refl;
          small = omega (arith, room);
          begins = k.begins;
          seats = reseat (length from) k.ticket k.serving (old + 1) k.serving k.log k.log s.views id m.0 w k.seats at
              (λ j u other g. let f = k.seats.each j u g in (f.0, subst (λ (t : ℕ). Placed (length from) (t + 1) k.serving k.log u.seen u.opening u.stage) e (placed_drawn (length from) k.ticket k.serving k.log u.seen u.opening u.stage f.1), f.2))
              (mine.0, (from_is, le, omega (arith, e)), (k.log, refl))
              (λ n h j u other g has. let r = has_range (length from) k.ticket k.serving n k.log u.seen u.opening u.stage le (k.seats.each j u g).1 has in let below = r.1 in absurd (omega (arith, h, below)))
              (let c = k.seats.counted in let t = tickets_set s.views id m.0 w at in let z : tickets m.0.stage ≡ 0 = ap tickets idle in omega (arith, c, t, z, e));
          slot = slot_same lies (length from) k.log s.homes s.views id m.0 w at (not_served m.0.stage Idle idle idle_not) (waiting_not k.ticket) k.slot;
        },
        ((λ _. (refl, refl)), (λ ne. absurd (ne e))),
      ))
      (λ ne. (
        m.0,
        keeps,
        tt,
        same_seat s k k.wakes at,
        ((λ e. absurd (ne e)), (λ _. refl)),
      )))

  abbrev LookGoal : (s : State S (View E)) → (ticket serving : ℕ) → List ℕ → List E → List (maybe.Option S) → Type 0
  LookGoal s ticket serving wakes log homes = (w : View E) × (a : Act S) × Valid homes m.1 a
      × Kept lies from (record { words = ticket ∷ serving ∷ length log ∷ wakes; homes = homes_after homes m.1 a; views = set s.views id w })
      × looked lies (step slots 1 0 0 none) m serving (w, carried_after m.1 a)

  pub looks : (n : ℕ) → m.0.stage ≡ Waiting n → Allows (Kept lies from) slots id m 1 (λ k. k) (looked lies (step slots 1 0 0 none) m)
  looks n waits s k len at small =
      let P : List ℕ → Type 0 = λ ws. (w : View E) × (a : Act S) × Valid s.homes m.1 a
      × Kept lies from (record { words = set ws 1 (get_or ws 1 0); homes = homes_after s.homes m.1 a; views = set s.views id w })
      × looked lies (step slots 1 0 0 none) m (get_or ws 1 0) (w, carried_after m.1 a) in
      let mine = k.seats.each id m.0 at in
      let placed = subst (Placed (length from) k.ticket k.serving k.log m.0.seen m.0.opening) waits mine.1 in
      let is : number m.0.stage ≡ n = ap number waits in
      let le : k.serving ≤ k.ticket = let c = k.seats.counted in omega (arith, c) in
      subst P (sym k.words) (dite (ℕ_discrete k.serving n)
      (λ e.
      let has : HasTicket k.serving m.0.stage = subst (HasTicket k.serving) (sym waits) (sym e) in
      let others = alone (length from) k.ticket k.serving k.log s.views id m.0 k.seats at has in
      ⊎_elim
      (λ (h : (x : S) × (s.homes ≡ some x ∷ []) × lies (length from) k.log x × ((j n start : ℕ) (v : View E) → get_elem? s.views j ≡ some v → v.stage ≡ Served n start → ⊥)).
      subst (LookGoal s k.ticket k.serving k.wakes k.log) (sym h.1)
      (let w : View E = view (Served k.serving (length k.log)) k.log m.0.found m.0.opening in (
        w,
        takes 0 h.0,
        refl,
        with_seats s k k.wakes _ _ _ refl (reseat (length from) k.ticket k.serving k.ticket k.serving k.log k.log s.views id m.0 w k.seats at
            (λ j u other g. k.seats.each j u g)
            (prefix_self k.log, (placed.0, refl, (let b = placed.2 in omega (arith, b, e)), refl, omega arith), (k.log, refl))
            (λ q h j u other g has'. other (k.seats.apart j id k.serving u m.0 g at (subst (λ (z : ℕ). HasTicket z u.stage) (sym h) has') has))
            (let c = k.seats.counted in let t = tickets_set s.views id m.0 w at in let z : tickets m.0.stage ≡ 1 = ap tickets waits in omega (arith, c, t, z))) (inr (refl, (id, w, k.serving, length k.log, set_seen s.views id w m.0 at, refl))),
        ((λ _. (k.log, h.0, mine.0, subst (λ (o : ℕ). lies o k.log h.0) (sym placed.0) h.2, refl)), (λ ne. absurd (ne (e ∙ sym is)))),
      )))
      (λ (h : (s.homes ≡ none ∷ []) × ((j : ℕ) × (v : View E) × (n : ℕ) × (start : ℕ) × (get_elem? s.views j ≡ some v) × (v.stage ≡ Served n start))).
      absurd (dite (ℕ_discrete h.1.0 id)
      (λ same. waiting_not n h.1.2 h.1.3 (sym waits ∙ (ap (λ (z : View E). z.stage) (some-injective m.0 h.1.1 (sym at ∙ (ap (λ (q : ℕ). get_elem? s.views q) (sym same) ∙ h.1.4))) ∙ h.1.5)))
      (λ other. others h.1.0 h.1.1 other h.1.4 h.1.2 h.1.3 h.1.5)))
      k.slot)
      (λ ne. (
        m.0,
        keeps,
        tt,
        same_seat s k k.wakes at,
        ((λ e. absurd (ne (e ∙ is))), (λ _. refl)),
      )))

  abbrev AddGoal : (listed : S → List E) (x : S) (old : ℕ) (s : State S (View E)) → (ticket serving : ℕ) → List ℕ → List E → ℕ → Type 0
  AddGoal listed x old s ticket serving wakes log new = (w : View E) × (a : Act S) × Valid s.homes m.1 a
      × Kept lies from (record { words = ticket ∷ serving ∷ new ∷ wakes; homes = homes_after s.homes m.1 a; views = set s.views id w })
      × added listed (step slots 2 old (old + 1) (some x)) m (length log) (w, carried_after m.1 a)

  pub adds : (listed : S → List E) (x : S) (e : E) (n start old : ℕ) → m.0.stage ≡ Served n start → old ≡ length m.0.seen → listed x ≡ m.0.seen ++ e ∷ []
      → Allows (Kept lies from) slots id m 2 (λ n. either (eqb n old) (old + 1) n) (added listed (step slots 2 old (old + 1) (some x)) m)
  adds listed x e n start old served is grows s k len at small =
      let P : List ℕ → Type 0 = λ ws. (w : View E) × (a : Act S) × Valid s.homes m.1 a
      × Kept lies from (record { words = set ws 2 (either (eqb (get_or ws 2 0) old) (old + 1) (get_or ws 2 0)); homes = homes_after s.homes m.1 a; views = set s.views id w })
      × added listed (step slots 2 old (old + 1) (some x)) m (get_or ws 2 0) (w, carried_after m.1 a) in
      let mine = k.seats.each id m.0 at in
      let has = served_has (length from) k.ticket k.serving k.log m.0 n start mine served in
      let whole : length k.log ≡ old = ap length (sym has.1) ∙ sym is in
      let more : IsPrefix k.log (listed x) = (e ∷ [], ap (λ (l : List E). l ++ e ∷ []) (sym has.1) ∙ sym grows) in
      let long : length (listed x) ≡ old + 1 = let a = ap length grows in let b = length-append m.0.seen (e ∷ []) in omega (arith, a, b, is) in
      let w : View E = view m.0.stage (listed x) m.0.found m.0.opening in
      let has' : HasTicket k.serving m.0.stage = subst (HasTicket k.serving) (sym served) has.0 in
      let others = alone (length from) k.ticket k.serving k.log s.views id m.0 k.seats at has' in
      subst P (sym k.words) (exchanged (length k.log) old (old + 1) (AddGoal listed x old s k.ticket k.serving k.wakes k.log)
      (λ same. (
        w,
        keeps,
        tt,
        record {
          ticket = k.ticket;
          serving = k.serving;
          log = listed x;
          wakes = k.wakes;
          words = ap (λ (c : ℕ). k.ticket ∷ k.serving ∷ c ∷ k.wakes) (sym long);
          small = k.small;
          begins = prefix_trans from k.log (listed x) k.begins more;
          seats = reseat (length from) k.ticket k.serving k.ticket k.serving k.log (listed x) s.views id m.0 w k.seats at
              (λ j u other g. let f = k.seats.each j u g in (prefix_trans u.seen k.log (listed x) f.0 more, placed_grown (length from) k.ticket k.serving k.log (listed x) u.seen u.opening u.stage (others j u other g) f.1, prefix_trans u.heard k.log (listed x) f.2 more)) (
                prefix_self (listed x),
                subst (Placed (length from) k.ticket k.serving (listed x) (listed x) m.0.opening) (sym served)
                    (has.4, has.0, has.3, refl, (let b = has.2 in omega (arith, b, long, whole))),
                (listed x, refl),
              )
              (λ q h j u other g hq. let r : q ≡ k.serving = sym (subst (HasTicket q) served h) ∙ has.0 in other (k.seats.apart j id k.serving u m.0 g at (subst (λ (z : ℕ). HasTicket z u.stage) r hq) has'))
              (let c = k.seats.counted in let t = tickets_set s.views id m.0 w at in omega (arith, c, t));
          slot = slot_taken lies (length from) k.log (listed x) s.homes s.views (set s.views id w) id n start m.0 w at served (set_seen s.views id w m.0 at) served k.slot;
        },
        (whole, refl),
      ))
      (λ ne. absurd (ne whole)))

  abbrev LeaveGoal : (s : State S (View E)) → (ticket serving : ℕ) → List ℕ → List E → ℕ → List (maybe.Option S) → List (ℕ × S) → Type 0
  LeaveGoal s ticket serving wakes log new homes carried = (w : View E) × (a : Act S) × Valid homes carried a
      × Kept lies from (record { words = ticket ∷ new ∷ length log ∷ wakes; homes = homes_after homes carried a; views = set s.views id w })
      × left (step slots 1 1 0 none) m serving (w, carried_after carried a)

  pub leaves : (x : S) (n start : ℕ) → m.0.stage ≡ Served n start → m.1 ≡ (0, x) ∷ [] → lies m.0.opening m.0.seen x
      → Allows (Kept lies from) slots id m 1 (λ n. (n + 1) % 2 ^ 64) (left (step slots 1 1 0 none) m)
  leaves x n start served carried lying s k len at small =
      let P : List ℕ → Type 0 = λ ws. (w : View E) × (a : Act S) × Valid s.homes m.1 a
      × Kept lies from (record { words = set ws 1 ((get_or ws 1 0 + 1) % 2 ^ 64); homes = homes_after s.homes m.1 a; views = set s.views id w })
      × left (step slots 1 1 0 none) m (get_or ws 1 0) (w, carried_after m.1 a) in
      let mine = k.seats.each id m.0 at in
      let has = served_has (length from) k.ticket k.serving k.log m.0 n start mine served in
      let w : View E = view Idle m.0.seen (m.0.found ++ start_of m.0.stage ∷ []) m.0.opening in
      let has' : HasTicket k.serving m.0.stage = subst (HasTicket k.serving) (sym served) has.0 in
      let others = alone (length from) k.ticket k.serving k.log s.views id m.0 k.seats at has' in
      let not_mine : (j : ℕ) (u : View E) → j ≢ id → get_elem? s.views j ≡ some u → HasTicket k.serving u.stage → ⊥ = λ j u other g h. other (k.seats.apart j id k.serving u m.0 g at h has') in
      let next : (k.serving + 1) % 2 ^ 64 ≡ k.serving + 1 = mod-eq_of_lt (let b = has.3 in let c = k.small in let d = has.0 in omega (arith, b, c, d)) in
      subst P (sym k.words) (⊎_elim
      (λ (h : (x : S) × (s.homes ≡ some x ∷ []) × lies (length from) k.log x × ((j n start : ℕ) (v : View E) → get_elem? s.views j ≡ some v → v.stage ≡ Served n start → ⊥)).
      absurd (h.3 id n start m.0 at served))
      (λ (h : (s.homes ≡ none ∷ []) × ((j : ℕ) × (v : View E) × (n : ℕ) × (start : ℕ) × (get_elem? s.views j ≡ some v) × (v.stage ≡ Served n start))).
      subst (λ (z : ℕ). LeaveGoal s k.ticket k.serving k.wakes k.log z s.homes m.1) (sym next)
      (subst (λ (hs : List (maybe.Option S)). LeaveGoal s k.ticket k.serving k.wakes k.log (k.serving + 1) hs m.1) (sym h.0)
      (subst (LeaveGoal s k.ticket k.serving k.wakes k.log (k.serving + 1) (none ∷ [])) (sym carried) (
        w,
        gives,
        tt,
        record {
          ticket = k.ticket;
          serving = k.serving + 1;
          log = k.log;
          wakes = k.wakes;
          words = refl;
          small = k.small;
          begins = k.begins;
          seats = reseat (length from) k.ticket k.serving k.ticket (k.serving + 1) k.log k.log s.views id m.0 w k.seats at
              (λ j u other g. let f = k.seats.each j u g in (f.0, placed_left (length from) k.ticket k.serving k.log u.seen u.opening u.stage (not_mine j u other g) f.1, f.2))
              (mine.0, has.4, (k.log, refl))
              (λ q h j u other g hq. absurd h)
              (let c = k.seats.counted in let t = tickets_set s.views id m.0 w at in let z : tickets m.0.stage ≡ 1 = ap tickets served in omega (arith, c, t, z));
          slot = inl (
            x,
            refl,
            subst (λ (l : List E). lies (length from) l x) has.1 (subst (λ (o : ℕ). lies o m.0.seen x) has.4 lying),
            (λ j q begun u g e. ⊎_elim
                (λ (f : (j ≡ id) × (w ≡ u)). idle_not q begun (ap (λ (z : View E). z.stage) f.1 ∙ e))
                (λ (f : (j ≢ id) × (get_elem? s.views j ≡ some u)). others j u f.0 f.1 q begun e)
                (at_set s.views id j w u g)),
          );
        },
        refl,
      ))))
      k.slot)

  abbrev SignalGoal : (ℕ → ℕ) → State S (View E) → List ℕ → ℕ → Type 0
  SignalGoal f s ws word = (w : View E) × (a : Act S) × Valid s.homes m.1 a
      × Kept lies from (record { words = set ws word (f (get_or ws word 0)); homes = homes_after s.homes m.1 a; views = set s.views id w })
      × ((w, carried_after m.1 a) ≡ m)

  -- a word behind the first three may become anything
  pub signals : (word i : ℕ) (f : ℕ → ℕ) → word ≡ suc (suc (suc i)) → Allows (Kept lies from) slots id m word f (λ n m'. m' ≡ m)
  signals word i f is s k len at small =
      subst (λ (ws : List ℕ). SignalGoal f s ws word) (sym k.words)
      (subst (SignalGoal f s (k.ticket ∷ k.serving ∷ length k.log ∷ k.wakes)) (sym is) (
        m.0,
        keeps,
        tt,
        same_seat s k (set k.wakes i (f (get_or k.wakes i 0))) at,
        refl,
      ))

  pub splits : m.0.stage ≡ Idle → Splits (Kept lies from) id m.0 m.0 (fresh m.0)
  splits idle s k at = subst (λ (vs : List (View E)). Kept lies from (record { words = s.words; homes = s.homes; views = vs ++ fresh m.0 ∷ [] })) (sym (set_again s.views id m.0 at))
      (let w : View E = fresh m.0 in
      let mine = k.seats.each id m.0 at in
      let placed : m.0.opening ≡ length from = subst (Placed (length from) k.ticket k.serving k.log m.0.seen m.0.opening) idle mine.1 in
      with_seats s k k.wakes _ _ _ k.words (record {
        each = λ j u g. ⊎_elim (k.seats.each j u) (λ e. subst (Fits (length from) k.ticket k.serving k.log) e (mine.0, placed, (k.log, refl))) (at_snoc s.views w u j g);
        apart = λ i j n x y g h a b.
            ⊎_elim
            (λ (p : get_elem? s.views i ≡ some x). ⊎_elim (λ (q : get_elem? s.views j ≡ some y). k.seats.apart i j n x y p q a b) (λ (q : w ≡ y). absurd (subst (λ (z : View E). HasTicket n z.stage) (sym q) b)) (at_snoc s.views w y j h))
            (λ (p : w ≡ x). absurd (subst (λ (z : View E). HasTicket n z.stage) (sym p) a))
            (at_snoc s.views w x i g);
        counted = let c = k.seats.counted in let t = tickets_snoc s.views w in omega (arith, c, t);
      }) (⊎_elim
      (λ (h : (x : S) × (s.homes ≡ some x ∷ []) × lies (length from) k.log x × ((j n start : ℕ) (v : View E) → get_elem? s.views j ≡ some v → v.stage ≡ Served n start → ⊥)).
      inl (h.0, h.1, h.2, λ j q start u g e. ⊎_elim (λ (f : get_elem? s.views j ≡ some u). h.3 j q start u f e) (λ (f : w ≡ u). idle_not q start (ap (λ (z : View E). z.stage) f ∙ e)) (at_snoc s.views w u j g)))
      (λ (h : (s.homes ≡ none ∷ []) × ((j : ℕ) × (v : View E) × (n : ℕ) × (start : ℕ) × (get_elem? s.views j ≡ some v) × (v.stage ≡ Served n start))).
      inr (h.0, (h.1.0, h.1.1, h.1.2, h.1.3, at_longer s.views (w ∷ []) h.1.0 h.1.1 h.1.4, h.1.5)))
      k.slot))

  -- of two beginnings of one list the longer is one, and both begin it
  pub longer_begins : (xs ys zs : List E) → IsPrefix xs zs → IsPrefix ys zs → IsPrefix (longer xs ys) zs × IsPrefix xs (longer xs ys) × IsPrefix ys (longer xs ys)
  longer_begins xs ys zs p q = go (ltb (length xs) (length ys)) refl
    where
      go : (b : Bool) → ltb (length xs) (length ys) ≡ b → IsPrefix (if b then ys else xs) zs × IsPrefix xs (if b then ys else xs) × IsPrefix ys (if b then ys else xs)
      go true e = (q, prefix_shorter xs ys zs p q (let l = ltb-true (length xs) (length ys) e in omega (arith, l)), prefix_self ys)
      go false e = (p, prefix_self xs, prefix_shorter ys xs zs q p (ltb-false (length xs) (length ys) e))

  pub learns : m.0.stage ≡ Idle → Allows (Kept lies from) slots id m 0 (λ n. n) (learned (step slots 0 0 0 none) m)
  learns idle s k len at small =
      let P : List ℕ → Type 0 = λ ws. (w : View E) × (a : Act S) × Valid s.homes m.1 a
      × Kept lies from (record { words = set ws 0 (get_or ws 0 0); homes = homes_after s.homes m.1 a; views = set s.views id w })
      × learned (step slots 0 0 0 none) m (get_or ws 0 0) (w, carried_after m.1 a) in
      let mine = k.seats.each id m.0 at in
      let long = longer_begins m.0.seen m.0.heard k.log mine.0 mine.2 in
      let w : View E = view m.0.stage (longer m.0.seen m.0.heard) m.0.found m.0.opening in
      subst P (sym k.words) (
        w,
        keeps,
        tt,
        with_seats s k k.wakes _ _ _ refl (reseat (length from) k.ticket k.serving k.ticket k.serving k.log k.log s.views id m.0 w k.seats at
            (λ j u ne g. k.seats.each j u g)
            (long.0, subst (Placed (length from) k.ticket k.serving k.log (longer m.0.seen m.0.heard) m.0.opening) (sym idle) (subst (Placed (length from) k.ticket k.serving k.log m.0.seen m.0.opening) idle mine.1), (k.log, refl))
            (λ n h j u ne g hn. subst (HasTicket n) idle h)
            (let c = k.seats.counted in let t = tickets_set s.views id m.0 w at in omega (arith, c, t))) (slot_same lies (length from) k.log s.homes s.views id m.0 w at (not_served m.0.stage Idle idle idle_not) (not_served m.0.stage Idle idle idle_not) k.slot),
        (refl, long.1, long.2),
      )

  pub joins : (other : ℕ) (o : View E) → m.0.stage ≡ Idle → o.stage ≡ Idle → Joins (Kept lies from) id m.0 other o (both m.0 o) spent
  joins other o idle idle' s k at apart at' =
      let w : View E = both m.0 o in
      let mine = k.seats.each id m.0 at in
      let at'' : get_elem? s.views other ≡ some o = ⊎_elim (λ (e : (other ≡ id) × (w ≡ o)). absurd (apart e.0)) (λ (e : (other ≢ id) × (get_elem? s.views other ≡ some o)). e.1) (at_set s.views id other w o at') in
      let theirs = k.seats.each other o at'' in
      let none_has : (st : Stage) → st ≡ Idle → (n : ℕ) → HasTicket n st → ⊥ = λ st e n h. subst (HasTicket n) e h in
      let one = reseat (length from) k.ticket k.serving k.ticket k.serving k.log k.log s.views id m.0 w k.seats at
      (λ j u ne g. k.seats.each j u g)
      (mine.0, mine.1, theirs.0)
      (λ n h j u ne g hn. none_has m.0.stage idle n h)
      (let c = k.seats.counted in let t = tickets_set s.views id m.0 w at in omega (arith, c, t)) in
      let slot_one = slot_same lies (length from) k.log s.homes s.views id m.0 w at (not_served m.0.stage Idle idle idle_not) (not_served m.0.stage Idle idle idle_not) k.slot in
      with_seats s k k.wakes _ _ _ k.words (reseat (length from) k.ticket k.serving k.ticket k.serving k.log k.log (set s.views id w) other o spent one at'
      (λ j u ne g. one.each j u g)
      ((k.log, refl), tt, (k.log, refl))
      (λ n h j u ne g hn. absurd h)
      (let c = one.counted in let t = tickets_set (set s.views id w) other o spent at' in let z : tickets o.stage ≡ 0 = ap tickets idle' in omega (arith, c, t, z))) (slot_same lies (length from) k.log s.homes (set s.views id w) other o spent at' (not_served o.stage Idle idle' idle_not) spent_not slot_one)

-- a gate that was just made keeps the rule
pub opens : {S E : Type 0} (lies : ℕ → List E → S → Type 0) (from : List E) (counts : List ℕ) (x : S) → lies (length from) from x
    → Kept lies from (opening (0 ∷ 0 ∷ length from ∷ counts) (x ∷ []) (starting from))
opens lies from counts x lying = record {
  ticket = 0;
  serving = 0;
  log = from;
  wakes = counts;
  words = refl;
  small = omega arith;
  begins = prefix_self from;
  seats = record {
    each = λ j v g. only j v g (λ u. Fits (length from) 0 0 from u) (prefix_self from, refl, (from, refl));
    apart = λ i j n v w g h a b. absurd (only i v g (λ u. HasTicket n u.stage → ⊥) (λ z. z) a);
    counted = refl;
  };
  slot = inl (x, refl, lying, λ j n start v g. only j v g (λ u. u.stage ≡ Served n start → ⊥) (idle_not n start));
}
  where
    only : (j : ℕ) (v : View _) → get_elem? (starting from ∷ []) j ≡ some v → (P : View _ → Type 0) → P (starting from) → P v
    only zero v g P p = subst P (some-injective (starting from) v g) p
    only (suc j) v g P p = absurd (some-ne-none v (sym g))
