-- The nodes of a walk, and the entries from a key on.
use Rattle.std.proofs.Common.{◌≡◌, ℕ, zero, suc, ◌-◌, List, [], ◌∷◌, ◌++◌, length, length-append, take, drop, filter, remove, slice_get, Bool, true, false, Some, is_some, unwrap_or, Ordering, Less, Equal, Greater, refl, sym, ap, ap₂, ◌∙◌, subst, arith, append_assoc, append-nil, nat_cmp, Bor, true≢false}
use Rattle.std.specs.Ordering.{is_le}
use Rattle.std.specs.Cmp.{IsTotalOrder}
use Rattle.std.specs.Cmp.Lexicographic.{slice_cmp}
use Rattle.std.specs.List.{AllByRecursion}
use Rattle.std.specs.List.Sorted.{IsStrictlySortedBy}
use Rattle.std.specs.Map.{keys_of}
use Rattle.std.specs.BTreeMap.Range.{entries_from}
use Rattle.std.proofs.lemmas.Cmp.{nat_list_cmp_total}
use Rattle.std.proofs.lemmas.List.Elements.{filter-append}
use Rattle.std.proofs.Math.Seq.{take-append_seam, drop-append_seam}
use Rattle.es_map.specs.declared.map.Node.{Node}
use Rattle.es_map.specs.Entries.{pair_of, AtFork}
use Rattle.es_map.specs.Waiting.{entries_waiting, Adds}
use Rattle.es_map.proofs.Entries.{all_along, above, passed, passed_here}

-- ---- the entries from a key on, on either side of an entry
module _ {K X : Type 0} (p : K → Bool) where
  keeps_all : (es : List (K × X)) → AllByRecursion (λ y. p y ≡ true) (keys_of es) → filter (λ e. p e.0) es ≡ es
  keeps_all [] h = refl
  keeps_all (a ∷ es) h = rw h.0 (ap (λ u. a ∷ u) (keeps_all es h.1))

  keeps_none : (es : List (K × X)) → AllByRecursion (λ y. p y ≡ false) (keys_of es) → filter (λ e. p e.0) es ≡ []
  keeps_none [] h = refl
  keeps_none (a ∷ es) h = rw h.0 (keeps_none es h.1)

module _ {K X : Type 0} {R : K → K → Ordering} (o : IsTotalOrder R) (k : K) (l : List (K × X)) (e : K × X) (r : List (K × X)) (s : IsStrictlySortedBy R (keys_of (l ++ e ∷ r))) where
  parts : entries_from (R k) (l ++ e ∷ r) ≡ entries_from (R k) l ++ entries_from (R k) (e ∷ r)
  parts = filter-append (λ e. is_le (R k e.0)) l (e ∷ r)

  not_from : AllByRecursion (λ y. R k y ≡ Greater) (keys_of l) → entries_from (R k) l ≡ []
  not_from h = keeps_none (λ y. is_le (R k y)) l (all_along (λ y. R k y ≡ Greater) (λ y. is_le (R k y) ≡ false) (λ y g. ap is_le g) (keys_of l) h)

  pub from_left : R k e.0 ≡ Less → entries_from (R k) (l ++ e ∷ r) ≡ entries_from (R k) l ++ e ∷ r
  from_left h =
      let after = all_along (λ y. R e.0 y ≡ Less) (λ y. is_le (R k y) ≡ true) (λ y g. ap is_le (o.trans k e.0 y h g)) (keys_of r) (above R l e r s) in
      parts ∙ ap (λ u. entries_from (R k) l ++ u) (keeps_all (λ y. is_le (R k y)) (e ∷ r) (ap is_le h, after))

  pub from_here : R k e.0 ≡ Equal → entries_from (R k) (l ++ e ∷ r) ≡ e ∷ r
  from_here h =
      let after = all_along (λ y. R e.0 y ≡ Less) (λ y. is_le (R k y) ≡ true) (λ y g. ap is_le (o.congr k e.0 y h ∙ g)) (keys_of r) (above R l e r s) in
      parts ∙ ap₂ (λ u v. u ++ v) (not_from (passed_here o k l e r s h)) (keeps_all (λ y. is_le (R k y)) (e ∷ r) (ap is_le h, after))

  pub from_right : R k e.0 ≡ Greater → entries_from (R k) (l ++ e ∷ r) ≡ entries_from (R k) r
  from_right h = parts ∙ ap₂ (λ u v. u ++ v) (not_from (passed o k l e r s h)) (rw h refl)

-- ---- the nodes that wait
last_at : {E : Type 0} (xs : List E) (n : ℕ) (b : E) → Some b ≡ slice_get xs n → suc n ≡ length xs → (front : List E) × (xs ≡ front ++ b ∷ [])
last_at [] n b h long = absurd (omega arith)
last_at (x ∷ []) zero b h long = ([], ap (λ u. unwrap_or u b ∷ []) (sym h))
last_at (x ∷ []) (suc n) b h long = absurd (omega arith)
last_at (x ∷ y ∷ ys) zero b h long = absurd (omega arith)
last_at (x ∷ y ∷ ys) (suc n) b h long = let rest = last_at (y ∷ ys) n b h (omega arith) in (x ∷ rest.0, ap (λ l. x ∷ l) rest.1)

last_of : {E : Type 0} (xs : List E) (b : E) → Some b ≡ slice_get xs (length xs - 1) → (front : List E) × (xs ≡ front ++ b ∷ [])
last_of [] b h = absurd (true≢false (ap is_some h))
last_of (x ∷ xs) b h = let at : length (x ∷ xs) - 1 ≡ length xs = omega arith in last_at (x ∷ xs) (length xs) b (subst (λ n. Some b ≡ slice_get (x ∷ xs) n) at h) refl

-- an item taken out from between two lists
taken_out : {E : Type 0} (front : List E) (b : E) (back : List E) (n : ℕ) → n ≡ length (front ++ b ∷ []) - 1 → remove ((front ++ b ∷ []) ++ back) n ≡ front ++ back
taken_out front b back n h =
    let at : n ≡ length front = omega (arith, length-append front (b ∷ []), h) in
    let next : suc n ≡ length (front ++ b ∷ []) = omega (arith, length-append front (b ∷ []), h) in
    ap₂ (λ u v. u ++ v) (ap₂ (λ i l. take i l) at (append_assoc front (b ∷ []) back) ∙ take-append_seam front (b ∷ back)) (ap (λ i. drop i ((front ++ b ∷ []) ++ back)) next ∙ drop-append_seam (front ++ b ∷ []) back)

module _ {V : Type 0} where
  waiting-append : (xs ys : List (Bor (Node V))) → entries_waiting (xs ++ ys) ≡ entries_waiting ys ++ entries_waiting xs
  waiting-append [] ys = sym (append-nil (entries_waiting ys))
  waiting-append (x ∷ xs) ys =
      ap (λ l. l ++ pair_of x.now.entry ∷ x.now.right) (waiting-append xs ys) ∙ append_assoc (entries_waiting ys) (entries_waiting xs) (pair_of x.now.entry ∷ x.now.right)

  module _ (xs : List (Bor (Node V))) (b : Bor (Node V)) (last : Some b ≡ slice_get xs (length xs - 1)) where
    begins : entries_waiting xs ≡ pair_of b.now.entry ∷ (b.now.right ++ entries_waiting (last_of xs b last).0)
    begins = ap entries_waiting (last_of xs b last).1 ∙ waiting-append (last_of xs b last).0 (b ∷ [])

    -- the last node's entry is the first that waits
    pub first_waiting : Some (pair_of b.now.entry) ≡ slice_get (entries_waiting xs) 0
    first_waiting = ap (λ l. slice_get l 0) (sym begins)

    -- with the last node's right side added, and that node taken out, all entries but the first wait
    pub rest_waiting : (more : List (Bor (Node V))) → Adds xs more b.now.right → entries_waiting (remove more (length xs - 1)) ≡ drop 1 (entries_waiting xs)
    rest_waiting more adds =
        let front = (last_of xs b last).0 in
        let is = (last_of xs b last).1 in
        let whole : more ≡ (front ++ b ∷ []) ++ adds.added = adds.is ∙ ap (λ l. l ++ adds.added) is in
        let out : remove more (length xs - 1) ≡ front ++ adds.added = ap (λ l. remove l (length xs - 1)) whole ∙ taken_out front b adds.added (length xs - 1) (ap (λ l. length l - 1) is) in
        ap entries_waiting out ∙ waiting-append front adds.added ∙ ap (λ l. l ++ entries_waiting front) adds.entries_are ∙ sym (ap (λ l. drop 1 l) begins)

  module _ (old new : List (Bor (Node V))) (k : List ℕ) (seen : List (List ℕ × V)) (b : Bor (Node V)) (f : AtFork seen b.now) where
    from_seen : (entries : List (List ℕ × V)) → entries_from (slice_cmp nat_cmp k) (b.now.left ++ pair_of b.now.entry ∷ b.now.right) ≡ entries → entries_from (slice_cmp nat_cmp k) seen ≡ entries
    from_seen entries h = ap (entries_from (slice_cmp nat_cmp k)) f.is ∙ h

    pub adds_left : slice_cmp nat_cmp k b.now.entry.key ≡ Less → Adds (old ++ b ∷ []) new (entries_from (slice_cmp nat_cmp k) b.now.left) → Adds old new (entries_from (slice_cmp nat_cmp k) seen)
    adds_left h adds = record {
      added = b ∷ adds.added;
      is = adds.is ∙ append_assoc old (b ∷ []) adds.added;
      entries_are = ap (λ l. l ++ pair_of b.now.entry ∷ b.now.right) adds.entries_are ∙ sym (from_seen _ (from_left nat_list_cmp_total k b.now.left (pair_of b.now.entry) b.now.right f.rising h));
    }

    pub adds_here : slice_cmp nat_cmp k b.now.entry.key ≡ Equal → new ≡ old ++ b ∷ [] → Adds old new (entries_from (slice_cmp nat_cmp k) seen)
    adds_here h is = record {
      added = b ∷ [];
      is = is;
      entries_are = sym (from_seen _ (from_here nat_list_cmp_total k b.now.left (pair_of b.now.entry) b.now.right f.rising h));
    }

    pub adds_right : slice_cmp nat_cmp k b.now.entry.key ≡ Greater → Adds old new (entries_from (slice_cmp nat_cmp k) b.now.right) → Adds old new (entries_from (slice_cmp nat_cmp k) seen)
    adds_right h adds = subst (Adds old new) (sym (from_seen _ (from_right nat_list_cmp_total k b.now.left (pair_of b.now.entry) b.now.right f.rising h))) adds
