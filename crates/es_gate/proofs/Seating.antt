-- What stays true of the seats when the view of one changes, or one more comes.
use Rattle.std.proofs.Common.{◌≡◌, ◌≢◌, ℕ, zero, suc, ◌+◌, ◌<◌, ◌≤◌, List, [], ◌∷◌, ◌++◌, length, set, sym, refl, ap, ◌∙◌, subst, arith, ⊎_elim}
use mathlib.Core.Option.{some, some-injective, some-ne-none}
use lib.ListN.{get_elem?}
use Rattle.atomic_table.proofs.Lists.{at_set}
use Rattle.es_gate.specs.declared.tickets.Stage.{Stage}
use Rattle.es_gate.specs.declared.tickets.Stage.TheVariants.{Idle, Waiting, Served, Spent}
use Rattle.es_gate.specs.declared.tickets.View.{View}
use Rattle.es_gate.specs.Turns.{HasTicket, tickets, all_tickets, Placed, Fits, Seats}

module _ {E : Type 0} where
  -- the number of tickets, when one seat's view changes
  pub tickets_set : (views : List (View E)) (id : ℕ) (v w : View E) → get_elem? views id ≡ some v
      → all_tickets (set views id w) + tickets v.stage ≡ all_tickets views + tickets w.stage
  tickets_set [] id v w at = absurd (some-ne-none v (sym at))
  tickets_set (x ∷ xs) zero v w at = let same : tickets x.stage ≡ tickets v.stage = ap (λ (u : View E). tickets u.stage) (some-injective x v at) in omega (arith, same)
  tickets_set (x ∷ xs) (suc id) v w at = let rest = tickets_set xs id v w at in omega (arith, rest)

  pub tickets_snoc : (views : List (View E)) (w : View E) → all_tickets (views ++ w ∷ []) ≡ all_tickets views + tickets w.stage
  tickets_snoc [] w = omega arith
  tickets_snoc (x ∷ xs) w = let rest = tickets_snoc xs w in omega (arith, rest)

  -- one seat has a new view, with no ticket of another's
  pub reseat : (o t s t' s' : ℕ) (log log' : List E) (views : List (View E)) (id : ℕ) (v w : View E) → Seats o t s log views → get_elem? views id ≡ some v
      → ((j : ℕ) (u : View E) → j ≢ id → get_elem? views j ≡ some u → Fits o t' s' log' u)
      → Fits o t' s' log' w
      → ((n : ℕ) → HasTicket n w.stage → (j : ℕ) (u : View E) → j ≢ id → get_elem? views j ≡ some u → HasTicket n u.stage → ⊥)
      → (all_tickets (set views id w) + s' ≡ t')
      → Seats o t' s' log' (set views id w)
  reseat o t s t' s' log log' views id v w seats at others mine alone count = record {
    each = λ j u g. ⊎_elim (λ e. subst (Fits o t' s' log') e.1 mine) (λ e. others j u e.0 e.1) (at_set views id j w u g);
    apart = λ i j n x y g h a b.
        ⊎_elim
        (λ (e : (i ≡ id) × (w ≡ x)).
        ⊎_elim
        (λ (f : (j ≡ id) × (w ≡ y)). e.0 ∙ sym f.0)
        (λ (f : (j ≢ id) × (get_elem? views j ≡ some y)). absurd (alone n (subst (λ (z : View E). HasTicket n z.stage) (sym e.1) a) j y f.0 f.1 b))
        (at_set views id j w y h))
        (λ (e : (i ≢ id) × (get_elem? views i ≡ some x)).
        ⊎_elim
        (λ (f : (j ≡ id) × (w ≡ y)). absurd (alone n (subst (λ (z : View E). HasTicket n z.stage) (sym f.1) b) i x e.0 e.1 a))
        (λ (f : (j ≢ id) × (get_elem? views j ≡ some y)). seats.apart i j n x y e.1 f.1 a b)
        (at_set views id j w y h))
        (at_set views id i w x g);
    counted = count;
  }

abbrev pub NotServed : Stage → Type 0
NotServed st = (n start : ℕ) → st ≡ Served n start → ⊥

abbrev IsServed : Stage → Type 0
IsServed Idle = ⊥
IsServed (Waiting n) = ⊥
IsServed (Served n start) = Unit {0}
IsServed Spent = ⊥

pub idle_not : NotServed Idle
idle_not n start e = subst IsServed (sym e) tt

pub waiting_not : (m : ℕ) → NotServed (Waiting m)
waiting_not m n start e = subst IsServed (sym e) tt

pub spent_not : NotServed Spent
spent_not n start e = subst IsServed (sym e) tt

pub not_served : (st st' : Stage) → st ≡ st' → NotServed st' → NotServed st
not_served st st' e never n start f = never n start (sym e ∙ f)

pub set_seen : {A : Type 0} (l : List A) (i : ℕ) (a b : A) → get_elem? l i ≡ some b → get_elem? (set l i a) i ≡ some a
set_seen [] i a b e = absurd (some-ne-none b (sym e))
set_seen (x ∷ xs) zero a b e = refl
set_seen (x ∷ xs) (suc i) a b e = set_seen xs i a b e

module _ {E : Type 0} where
  -- a ticket is one of those that are drawn and not done with
  pub has_range : (o t s n : ℕ) (log seen : List E) (from : ℕ) (st : Stage) → s ≤ t → Placed o t s log seen from st → HasTicket n st → (s ≤ n) × (n < t)
  has_range o t s n log seen from Idle le p h = absurd h
  has_range o t s n log seen from (Waiting m) le p h = (omega (arith, p.1, h), omega (arith, p.2, h))
  has_range o t s n log seen from (Served m start) le p h = (omega (arith, p.1, h), omega (arith, p.2, h))
  has_range o t s n log seen from Spent le p h = absurd h

  -- one more ticket is drawn
  pub placed_drawn : (o t s : ℕ) (log seen : List E) (from : ℕ) (st : Stage) → Placed o t s log seen from st → Placed o (t + 1) s log seen from st
  placed_drawn o t s log seen from Idle p = p
  placed_drawn o t s log seen from (Waiting m) p = (p.0, p.1, omega (arith, p.2))
  placed_drawn o t s log seen from (Served m start) p = (p.0, p.1, omega (arith, p.2), p.3, p.4)
  placed_drawn o t s log seen from Spent p = tt

  -- the list grows, and the seat is another than the one that is served
  pub placed_grown : (o t s : ℕ) (log log' seen : List E) (from : ℕ) (st : Stage) → NotServed st → Placed o t s log seen from st → Placed o t s log' seen from st
  placed_grown o t s log log' seen from Idle never p = p
  placed_grown o t s log log' seen from (Waiting m) never p = p
  placed_grown o t s log log' seen from (Served m start) never p = absurd (never m start refl)
  placed_grown o t s log log' seen from Spent never p = tt

  -- the ticket that was served is done with, and the seat has another
  pub placed_left : (o t s : ℕ) (log seen : List E) (from : ℕ) (st : Stage) → (HasTicket s st → ⊥) → Placed o t s log seen from st → Placed o t (s + 1) log seen from st
  placed_left o t s log seen from Idle never p = p
  placed_left o t s log seen from (Waiting m) never p = (p.0, (let a : s ≢ m = λ e. never (sym e) in omega (arith, p.1, a)), p.2)
  placed_left o t s log seen from (Served m start) never p = absurd (never p.1)
  placed_left o t s log seen from Spent never p = tt

  pub opening_is : (o t s : ℕ) (log seen : List E) (from : ℕ) (st : Stage) → Placed o t s log seen from st → (st ≡ Spent → ⊥) → from ≡ o
  opening_is o t s log seen from Idle p never = p
  opening_is o t s log seen from (Waiting m) p never = p.0
  opening_is o t s log seen from (Served m start) p never = p.0
  opening_is o t s log seen from Spent p never = absurd (never refl)

  -- the seat that is served has the ticket that is served
  pub served_has : (o t s : ℕ) (log : List E) (v : View E) (n start : ℕ) → Fits o t s log v → v.stage ≡ Served n start → (n ≡ s) × (v.seen ≡ log) × (start ≤ length log) × (n < t) × (v.opening ≡ o)
  served_has o t s log v n start fits e = let p : Placed o t s log v.seen v.opening (Served n start) = subst (Placed o t s log v.seen v.opening) e fits.1 in (p.1, p.3, p.4, p.2, p.0)

  -- beside a seat with the ticket that is served no other is served
  pub alone : (o t s : ℕ) (log : List E) (views : List (View E)) (id : ℕ) (v : View E) → Seats o t s log views → get_elem? views id ≡ some v → HasTicket s v.stage
      → (j : ℕ) (u : View E) → j ≢ id → get_elem? views j ≡ some u → NotServed u.stage
  alone o t s log views id v seats at has j u other g n start e =
      let p = served_has o t s log u n start (seats.each j u g) e in
      other (seats.apart j id s u v g at (subst (HasTicket s) (sym e) p.0) has)
