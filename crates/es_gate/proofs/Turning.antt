-- What the steps of a turn come to.
use Rattle.std.proofs.Common.{◌≡◌, ℕ, ◌+◌, List, [], ◌∷◌, ◌++◌, length, sym, refl, ap, ◌∙◌, subst, arith, Option, Some, None}
use mathlib.Core.List.{IsPrefix}
use mathlib.Core.Option.{some}
use Rattle.atomic_table.specs.Table.{rest}
use Rattle.atomic_table.specs.Seated.{TableId}
use Rattle.atomic_table.specs.declared.shared.Seat.{Seat}
use Rattle.es_gate.specs.declared.tickets.Stage.TheVariants.{Served}
use Rattle.es_gate.specs.declared.tickets.View.{View}
use Rattle.es_gate.specs.declared.tickets.Held.{Held}
use Rattle.std.proofs.Common.{length-append}
use Rattle.std.specs.Prelude.{unwrap_or}
use Rattle.atomic_table.specs.Table.{step}
use Rattle.es_gate.specs.Turns.{view, LiesBeside, added, listed}
use Rattle.es_gate.specs.Passes.{IsIdle, Draws, Enters, HasTurn, BeginsTurn, BooksMore, HasGrown, Appends}

pub some_same : {A : Type 0} (x : Option A) (a b : A) → x ≡ Some a → x ≡ Some b → a ≡ b
some_same x a b p q = ap (λ z. unwrap_or z a) (sym p ∙ q)

module _ {V G E : Type 0} (entries : V → List E) where
  pub lies_some : (o : ℕ) (log : List E) (x : Option (Held V G)) → LiesBeside entries o log x → (h : Held V G) × (x ≡ Some h) × (entries h.value ≡ log) × (h.book.total + o ≡ length log)
  lies_some o log None p = absurd p
  lies_some o log (Some h) p = (h, refl, p.0, p.1)

  pub begins : (table : TableId) (p d e q : Seat (Option (Held V G)) (View E)) (n : ℕ) (found : Option (Held V G)) → IsIdle table p → Draws p n d → Enters (LiesBeside entries) d n e
      → q.table_id ≡ e.table_id → e.me.1 ≡ (0, found) ∷ rest e.me.1 → q.me ≡ (e.me.0, (0, None) ∷ rest e.me.1) → BeginsTurn entries table p q found
  begins table p d e q n found idle drew enter same took gave =
      let log = enter.1.0 in
      let x = enter.1.1 in
      let in_hand : (0, found) ∷ rest e.me.1 ≡ (0, x) ∷ d.me.1 = sym took ∙ ap (λ m. m.1) enter.1.4 in
      let left : ℕ × Option (Held V G) = (0, found) in
      let right : ℕ × Option (Held V G) = (0, x) in
      let pair : left ≡ right = cc in_hand in
      let found_is : found ≡ x = ap (λ (z : ℕ × Option (Held V G)). z.1) pair in
      let l = lies_some d.me.0.opening log x enter.1.3 in
      let view_is : q.me.0 ≡ view (Served n (length log)) log p.me.0.found p.me.0.opening =
      ap (λ m. m.0) gave ∙ (ap (λ m. m.0) enter.1.4 ∙ ap (λ (v : View E). view (Served n (length log)) log v.found v.opening) (ap (λ m. m.0) drew.1)) in
      let bare : rest e.me.1 ≡ [] = ap (λ m. rest m.1) enter.1.4 ∙ (ap (λ m. m.1) drew.1 ∙ idle.2) in
      let opening_is : d.me.0.opening ≡ p.me.0.opening = ap (λ m. m.0.opening) drew.1 in (
        (
          ((same ∙ (enter.0.0 ∙ (drew.0.0 ∙ idle.0.0))), idle.0.1, idle.0.2),
          (n, length log, ap (λ v. v.stage) view_is),
          ap (λ m. m.1) gave ∙ ap (λ (r : List (ℕ × Option (Held V G))). (0, None) ∷ r) bare,
          (l.0, found_is ∙ l.1, (let a = l.3 in let b = ap (λ (v : View E). v.opening) view_is in let c = ap (λ (v : View E). length v.seen) view_is in omega (arith, a, b, c, opening_is))),
        ),
        subst (IsPrefix p.me.0.seen) (sym (ap (λ (v : View E). v.seen) view_is)) (subst (λ (z : List E). IsPrefix z log) (ap (λ m. m.0.seen) drew.1) enter.1.2),
        (l.0, found_is ∙ l.1, l.2 ∙ sym (ap (λ (v : View E). v.seen) view_is)),
        ap (λ (v : View E). v.found) view_is,
        ap (λ (v : View E). v.opening) view_is,
        (n, ap (λ (v : View E). v.stage) view_is ∙ ap (λ (z : List E). Served n (length z)) (sym (ap (λ (v : View E). v.seen) view_is))),
      )

  -- the value in hand lies beside its book
  pub lies_in_hand : (o : ℕ) (log : List E) (x : Option (Held V G)) (h h' : Held V G) → x ≡ Some h → entries h.value ≡ log → x ≡ Some h' → h'.book.total + o ≡ length log → LiesBeside entries o log x
  lies_in_hand o log x h h' p stands q books = subst (LiesBeside entries o log) (sym p) (stands, (let same : h.book.total ≡ h'.book.total = ap (λ (z : Held V G). z.book.total) (some_same x h h' p q) in omega (arith, same, books)))

  pub grown_by : (p : Seat (Option (Held V G)) (View E)) (held : Option (Held V G)) (inside : Held V G) → HasGrown entries p held → held ≡ Some inside → (e : E) × (entries inside.value ≡ p.me.0.seen ++ e ∷ [])
  grown_by p held inside grown is = (grown.0, ap (λ (z : Held V G). entries z.value) (some_same held inside grown.1.0 is grown.1.1) ∙ grown.1.2)

  pub counts_one : (table : TableId) (slots before found : ℕ) (p q : Seat (Option (Held V G)) (View E)) (held : Option (Held V G)) (inside now : Held V G) → HasTurn entries table p held → HasGrown entries p held → held ≡ Some inside
      → now.value ≡ inside.value → now.book.total ≡ inside.book.total + 1 → q.table_id ≡ p.table_id
      → added (listed entries) (step slots 2 before (before + 1) (some (Some now))) p.me found q.me
      → HasTurn entries table q (Some now) × BooksMore entries 1 held (Some now) × Appends entries p q (Some now)
  counts_one table slots before found p q held inside now turn grown is same more table_same done =
      let by = grown_by p held inside grown is in
      let view_is : q.me.0 ≡ view p.me.0.stage (entries now.value) p.me.0.found p.me.0.opening = ap (λ m. m.0) done.1 in
      let seen_is : q.me.0.seen ≡ entries now.value = ap (λ (v : View E). v.seen) view_is in
      let list_is : entries now.value ≡ p.me.0.seen ++ by.0 ∷ [] = ap entries same ∙ by.1 in
      let stage_is : q.me.0.stage ≡ p.me.0.stage = ap (λ (v : View E). v.stage) view_is in
      let opening_is : q.me.0.opening ≡ p.me.0.opening = ap (λ (v : View E). v.opening) view_is in
      let length_is : length q.me.0.seen ≡ length p.me.0.seen + 1 = let a = length-append p.me.0.seen (by.0 ∷ []) in let b = ap length (seen_is ∙ list_is) in omega (arith, a, b) in
      let books : inside.book.total ≡ turn.3.0.book.total = ap (λ (z : Held V G). z.book.total) (some_same held inside turn.3.0 is turn.3.1) in (
        (
          ((table_same ∙ turn.0.0), turn.0.1, turn.0.2),
          (turn.1.0, turn.1.1, stage_is ∙ turn.1.2),
          ap (λ m. m.1) done.1 ∙ turn.2,
          (now, refl, (let a = turn.3.2 in omega (arith, a, more, books, opening_is, length_is))),
        ),
        (inside, now, is, refl, same, more),
        ((now, refl, sym seen_is), (by.0, seen_is ∙ list_is), ap (λ (v : View E). v.found) view_is, opening_is, stage_is),
      )

  -- a book of total 0 lies beside the opening value
  pub lies_first : (h : Held V G) → h.book.total ≡ 0 → LiesBeside entries (length (entries h.value)) (entries h.value) (Some h)
  lies_first h none = (refl, omega (arith, none))
