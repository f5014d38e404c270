-- What stands at a name after a change of a map.
use Rattle.std.proofs.Common.{◌≡◌, ℕ, List, [], ◌∷◌, ◌++◌, Bool, true, false, cond, Option, Some, None, Ordering, Less, Equal, Greater, refl, sym, ap, ◌∙◌, subst}
use Rattle.std.specs.Prelude.{IfSome}
use Rattle.std.specs.Ordering.{is_eq, eq_by_cmp}
use Rattle.std.specs.FinMap as map
use Rattle.std.proofs.lemmas.Bool.{false≢true}
use Rattle.std.proofs.lemmas.Cmp.{nat_list_cmp_total}
use Rattle.std.proofs.lemmas.Map.Lookups.{exact_bytes}
use Rattle.es_keys.specs.declared.kinds.KeyRecord.{KeyRecord}
use Rattle.es_keys.specs.Keys.{invalidated}
use Rattle.es_map.specs.Views.{text_cmp}
use Rattle.es_records.specs.Changes.{replaced, invalidated_in}

tied : (o : Ordering) → is_eq o ≡ true → o ≡ Equal
tied Less e = absurd (false≢true e)
tied Equal e = refl
tied Greater e = absurd (false≢true e)

-- keys that are compared as equal are equal
pub equal : (q k : List ℕ) → eq_by_cmp text_cmp q k ≡ true → q ≡ k
equal q k e = exact_bytes q k (tied (text_cmp q k) e)

-- each stands at its own name
module _ {X : Type 0} (name_of : X → List ℕ) where
  abbrev pub StandsAtOwn : map.FinMap text_cmp X → Type 0
  StandsAtOwn m = (q : List ℕ) → IfSome (map.get m q) (λ x. name_of x ≡ q)

  put_choice : (x : X) (q : List ℕ) (o : Option X) (b : Bool) → (b ≡ true → q ≡ name_of x) → IfSome o (λ y. name_of y ≡ q) → IfSome (cond b (Some x) o) (λ y. name_of y ≡ q)
  put_choice x q o true same h = sym (same refl)
  put_choice x q o false same h = h

  pub insert_own : (m : map.FinMap text_cmp X) → StandsAtOwn m → (k : List ℕ) (x : X) → name_of x ≡ k → StandsAtOwn (map.insert m k x)
  insert_own m own k x is q =
      subst (λ o. IfSome o (λ y. name_of y ≡ q)) (sym (map.get-insert nat_list_cmp_total m k x q))
      (put_choice x q (map.get m q) (eq_by_cmp text_cmp q k) (λ e. equal q k e ∙ sym is) (own q))

  gone_choice : (q : List ℕ) (o : Option X) (b : Bool) → IfSome o (λ y. name_of y ≡ q) → IfSome (cond b None o) (λ y. name_of y ≡ q)
  gone_choice q o true h = tt
  gone_choice q o false h = h

  pub remove_own : (m : map.FinMap text_cmp X) → StandsAtOwn m → (k : List ℕ) → StandsAtOwn (map.remove m k)
  remove_own m own k q =
      subst (λ o. IfSome o (λ y. name_of y ≡ q)) (sym (map.get-remove nat_list_cmp_total m k q))
      (gone_choice q (map.get m q) (eq_by_cmp text_cmp q k) (own q))

-- ---- keys that are invalidated
abbrev pub AtIds : map.FinMap text_cmp KeyRecord → Type 0
AtIds keys = (q : List ℕ) → IfSome (map.get keys q) (λ (kept : KeyRecord). kept.id ≡ q)

replaced_own : (keys : map.FinMap text_cmp KeyRecord) → AtIds keys → (id : List ℕ) (found : Option KeyRecord) → IfSome found (λ kept. kept.id ≡ id) → AtIds (replaced keys id found)
replaced_own keys own id None is = own
replaced_own keys own id (Some kept) is = insert_own (λ (k : KeyRecord). k.id) keys own id (invalidated kept) is

pub invalidated_own : (ids : List (List ℕ)) (keys : map.FinMap text_cmp KeyRecord) → AtIds keys → AtIds (invalidated_in keys ids)
invalidated_own [] keys own = own
invalidated_own (id ∷ ids) keys own = invalidated_own ids (replaced keys id (map.get keys id)) (replaced_own keys own id (map.get keys id) (own id))

-- what an invalidation leaves of a key is read of each key as it was
module _ {Y : Type 0} (read : Option KeyRecord → Y) (same : (kept : KeyRecord) → read (Some (invalidated kept)) ≡ read (Some kept)) where
  read_choice : (keys : map.FinMap text_cmp KeyRecord) (id q : List ℕ) (kept : KeyRecord) (b : Bool) → map.get keys id ≡ Some kept → (b ≡ true → q ≡ id)
      → read (cond b (Some (invalidated kept)) (map.get keys q)) ≡ read (map.get keys q)
  read_choice keys id q kept true at is = same kept ∙ ap read (sym at) ∙ ap (λ k. read (map.get keys k)) (sym (is refl))
  read_choice keys id q kept false at is = refl

  read_replaced : (keys : map.FinMap text_cmp KeyRecord) (id q : List ℕ) (found : Option KeyRecord) → map.get keys id ≡ found → read (map.get (replaced keys id found) q) ≡ read (map.get keys q)
  read_replaced keys id q None at = refl
  read_replaced keys id q (Some kept) at =
      ap read (map.get-insert nat_list_cmp_total keys id (invalidated kept) q) ∙ read_choice keys id q kept (eq_by_cmp text_cmp q id) at (equal q id)

  pub read_invalidated : (ids : List (List ℕ)) (keys : map.FinMap text_cmp KeyRecord) (q : List ℕ) → read (map.get (invalidated_in keys ids) q) ≡ read (map.get keys q)
  read_invalidated [] keys q = refl
  read_invalidated (id ∷ ids) keys q = read_invalidated ids (replaced keys id (map.get keys id)) q ∙ read_replaced keys id q (map.get keys id) refl

-- one list of ids after the other
pub invalidated_append : (ids more : List (List ℕ)) (keys : map.FinMap text_cmp KeyRecord) → invalidated_in keys (ids ++ more) ≡ invalidated_in (invalidated_in keys ids) more
invalidated_append [] more keys = refl
invalidated_append (id ∷ ids) more keys = invalidated_append ids more (replaced keys id (map.get keys id))
