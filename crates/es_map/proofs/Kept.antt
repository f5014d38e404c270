-- Lists of entries in the order of their keys, as maps from texts: what a change of the list is of the map.
use Rattle.std.proofs.Common.{◌≡◌, ℕ, List, [], ◌∷◌, length, Bool, true, T, cond, Option, Some, None, Ordering, Less, Equal, Greater, refl, sym, ap, ◌∙◌, subst}
use Rattle.std.specs.List.{AllByRecursion}
use Rattle.std.specs.List.Sorted.{IsStrictlySortedBy}
use Rattle.std.specs.Ordering.{is_eq, eq_by_cmp, match_ordering}
use Rattle.std.specs.Map.{keys_of, values_of, lookup, remove_entry}
use Rattle.std.specs.BTreeMap.{insert_entry, is_at}
use Rattle.std.specs.FinMap as map
use Rattle.std.specs.FinMap.Entries.{below_all, by_order}
use Rattle.std.proofs.lemmas.Bool.{false≢true}
use Rattle.std.proofs.lemmas.Cmp.{nat_list_cmp_total, eq_by_cmp_equiv}
use Rattle.std.proofs.lemmas.Map.{lookup-remove_entry}
use Rattle.std.proofs.lemmas.Map.Keys.{IsDistinct-from_sorted}
use Rattle.es_map.specs.Entries.{IsRising}
use Rattle.es_map.proofs.Entries.{rising_none, rising_insert, rising_remove}
use Rattle.es_map.specs.Views.{text_cmp, map_of}

is_equal : (o : Ordering) → is_eq o ≡ true → o ≡ Equal
is_equal Less e = absurd (false≢true e)
is_equal Equal e = refl
is_equal Greater e = absurd (false≢true e)

module _ {X : Type 0} where
  below : (k : List ℕ) (es : List (List ℕ × X)) → AllByRecursion (λ y. text_cmp k y ≡ Less) (keys_of es) → below_all text_cmp k es ≡ true
  below k [] h = refl
  below k (e ∷ es) h = rw h.0 (below k es h.1)

  sorted : (es : List (List ℕ × X)) → IsRising es → map.is_sorted text_cmp es ≡ true
  unfolding IsStrictlySortedBy
  sorted [] s = refl
  sorted (e ∷ es) s = rw (below e.0 es s.0) (sorted es s.1)

  in_order : (es : List (List ℕ × X)) → IsRising es → T (map.is_sorted text_cmp es)
  in_order es s = subst T (sym (sorted es s)) tt

  found : (q : List ℕ) (es : List (List ℕ × X)) → map.find text_cmp q es ≡ lookup (is_at (text_cmp q)) es
  found q [] = refl
  found q (e ∷ es) = ap (λ (o : Option X). cond (is_eq (text_cmp q e.0)) (Some e.1) o) (found q es)

  put_is : (k : List ℕ) (v : X) (es : List (List ℕ × X)) → map.put text_cmp k v es ≡ insert_entry text_cmp es k v
  put_is k v [] = refl
  put_is k v (e ∷ es) = by (text_cmp k e.0) (put_is k v es)
    where
      by : (o : Ordering) → map.put text_cmp k v es ≡ insert_entry text_cmp es k v → by_order o ((k, v) ∷ e ∷ es) ((e.0, v) ∷ es) (e ∷ map.put text_cmp k v es) ≡ match_ordering o ((k, v) ∷ e ∷ es) ((e.0, v) ∷ es) (e ∷ insert_entry text_cmp es k v)
      by Less more = refl
      by Equal more = refl
      by Greater more = ap (λ t. e ∷ t) more

  pub entries_kept : (es : List (List ℕ × X)) → IsRising es → map.entries (map_of es) ≡ es
  entries_kept es s = map.entries-from_sorted text_cmp es (in_order es s)

  pub len_kept : (es : List (List ℕ × X)) → IsRising es → map.len (map_of es) ≡ length es
  len_kept es s = map.len-entries (map_of es) ∙ ap length (entries_kept es s)

  pub keys_kept : (es : List (List ℕ × X)) → IsRising es → map.keys (map_of es) ≡ keys_of es
  keys_kept es s = ap keys_of (entries_kept es s)

  pub values_kept : (es : List (List ℕ × X)) → IsRising es → map.values (map_of es) ≡ values_of es
  values_kept es s = ap values_of (entries_kept es s)

  pub get_kept : (es : List (List ℕ × X)) → IsRising es → (q : List ℕ) → map.get (map_of es) q ≡ lookup (is_at (text_cmp q)) es
  get_kept es s q = map.get-from_sorted text_cmp es q (in_order es s) ∙ found q es

  -- no entries
  pub none_rising : (es : List (List ℕ × X)) → es ≡ [] → IsRising es
  none_rising es e = subst IsRising (sym e) (rising_none text_cmp)

  pub none_kept : (es : List (List ℕ × X)) → es ≡ [] → map_of es ≡ map.empty
  none_kept es e = map.empty_of_len (map_of es) (len_kept es (none_rising es e) ∙ ap length e)

  -- a value at a key
  pub insert_rising : (es : List (List ℕ × X)) → IsRising es → (k : List ℕ) (v : X) → IsRising (insert_entry text_cmp es k v)
  insert_rising es s k v = rising_insert text_cmp nat_list_cmp_total k v es s

  pub insert_kept : (es : List (List ℕ × X)) → IsRising es → (k : List ℕ) (v : X) → map_of (insert_entry text_cmp es k v) ≡ map.insert (map_of es) k v
  insert_kept es s k v =
      map.same_entries_map _ _ (entries_kept (insert_entry text_cmp es k v) (insert_rising es s k v)
      ∙ sym (map.entries-insert nat_list_cmp_total (map_of es) k v ∙ ap (map.put text_cmp k v) (entries_kept es s) ∙ put_is k v es))

  -- without a key
  pub remove_rising : (es : List (List ℕ × X)) → IsRising es → (k : List ℕ) → IsRising (remove_entry (is_at (text_cmp k)) es)
  remove_rising es s k = rising_remove text_cmp (is_at (text_cmp k)) es s

  lookup_removed : (es : List (List ℕ × X)) → IsRising es → (k q : List ℕ) → lookup (is_at (text_cmp q)) (remove_entry (is_at (text_cmp k)) es) ≡ cond (is_at (text_cmp k) q) None (lookup (is_at (text_cmp q)) es)
  lookup_removed es s k q =
      lookup-remove_entry (eq_by_cmp_equiv nat_list_cmp_total) (is_at (text_cmp k)) (λ x y h. ap is_eq (nat_list_cmp_total.congr k x y (is_equal (text_cmp k x) h))) q es (IsDistinct-from_sorted text_cmp (keys_of es) s)

  pub remove_kept : (es : List (List ℕ × X)) → IsRising es → (k : List ℕ) → map_of (remove_entry (is_at (text_cmp k)) es) ≡ map.remove (map_of es) k
  remove_kept es s k =
      map.same_map nat_list_cmp_total (map.slice_cmp-IsAntisymmetric map.nat_cmp-IsAntisymmetric) _ _
      (λ q. get_kept (remove_entry (is_at (text_cmp k)) es) (remove_rising es s k) q ∙ lookup_removed es s k q
      ∙ ap (λ (b : Bool). cond b None (lookup (is_at (text_cmp q)) es)) ((eq_by_cmp_equiv nat_list_cmp_total).symm k q)
      ∙ ap (λ (o : Option X). cond (eq_by_cmp text_cmp q k) None o) (sym (get_kept es s q))
      ∙ sym (map.get-remove nat_list_cmp_total (map_of es) k q))

  -- a map with a copy of the key put, or with the key removed, by the lists of their entries
  module _ (es : List (List ℕ × X)) (s : IsRising es) (seen : map.FinMap text_cmp X) (view : map_of es ≡ seen) (k : List ℕ) where
    pub insert_seen : (copy : List ℕ) (v : X) (more : List (List ℕ × X)) → copy ≡ k → more ≡ insert_entry text_cmp es copy v → map_of more ≡ map.insert seen k v
    insert_seen copy v more same is = ap map_of is ∙ insert_kept es s copy v ∙ ap (λ (q : List ℕ). map.insert (map_of es) q v) same ∙ ap (λ (m : map.FinMap text_cmp X). map.insert m k v) view

    pub remove_seen : (less : List (List ℕ × X)) → less ≡ remove_entry (is_at (text_cmp k)) es → map_of less ≡ map.remove seen k
    remove_seen less is = ap map_of is ∙ remove_kept es s k ∙ ap (λ (m : map.FinMap text_cmp X). map.remove m k) view

    pub get_seen : map.get seen k ≡ lookup (is_at (text_cmp k)) es
    get_seen = ap (λ (m : map.FinMap text_cmp X). map.get m k) (sym view) ∙ get_kept es s k
