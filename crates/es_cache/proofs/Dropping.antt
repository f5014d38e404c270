-- Entries that are taken out one key after another.
use Rattle.std.proofs.Common.{◌≡◌, ℕ, ◌+◌, ◌<◌, length, get_or, take, Bool, true, false, cond, not, ◌&&◌, ◌||◌, List, [], ◌∷◌, ◌++◌, filter, refl, sym, ap, ◌∙◌}
use Rattle.std.specs.Cmp.{IsEquivalence}
use Rattle.std.specs.List.{IsDistinct, AllByRecursion, list_any}
use Rattle.std.specs.Map.{keys_of, remove_entry}
use Rattle.std.proofs.lemmas.List.Folds.{list_any-append}
use Rattle.std.proofs.lemmas.List.{take_more}
use Rattle.std.proofs.lemmas.Map.Made.{IsDistinct-keys_filter}
use Rattle.es_cache.specs.Entries.{without_keys}

-- what passes two tests is what passes one of what passes the other
pub filter-filter : {X : Type 0} (p q both : X → Bool) → ((x : X) → both x ≡ (p x && q x)) → (xs : List X) → filter both xs ≡ filter q (filter p xs)
filter-filter p q both is [] = refl
filter-filter {X} p q both is (x ∷ xs) =
    let more = filter-filter p q both is xs in let all : List X = filter both xs in let some : List X = filter q (filter p xs) in
    (elim (p x) as (λ y. p x ≡ y → filter both (x ∷ xs) ≡ filter q (filter p (x ∷ xs))) [
      | true ↦ λ t. rw (is x, t) (elim (q x) as (λ z. cond z (x ∷ all) all ≡ cond z (x ∷ some) some) [ true ↦ ap (λ l. x ∷ l) more | false ↦ more ])
      | false ↦ λ t. rw (is x, t) more
    ]) refl

module _ {K V : Type 0} {same : K → K → Bool} (laws : IsEquivalence same) where
  -- an equal key's entry is none of these
  none_equal : (key first : K) → same key first ≡ true → (entries : List (K × V)) → AllByRecursion (λ other. same first other ≡ false) (keys_of entries) → entries ≡ filter (λ entry. not (same key entry.0)) entries
  none_equal key first equal [] apart = refl
  none_equal key first equal (entry ∷ entries) apart =
      let differs = laws.congr key first entry.0 equal ∙ apart.0 in rw differs (ap (λ l. entry ∷ l) (none_equal key first equal entries apart.1))

  -- where keys are distinct, the first entry of a key is all of them
  pub remove_entry-distinct : (key : K) (entries : List (K × V)) → IsDistinct same (keys_of entries) → remove_entry (same key) entries ≡ filter (λ entry. not (same key entry.0)) entries
  unfolding IsDistinct
  remove_entry-distinct key [] distinct = refl
  remove_entry-distinct key (entry ∷ entries) distinct =
      (elim (same key entry.0) as (λ y. same key entry.0 ≡ y → remove_entry (same key) (entry ∷ entries) ≡ filter (λ e. not (same key e.0)) (entry ∷ entries)) [
        | true ↦ λ t. rw t (none_equal key entry.0 t entries distinct.0)
        | false ↦ λ t. rw t (ap (λ l. entry ∷ l) (remove_entry-distinct key entries distinct.1))
      ]) refl

-- one key more
pub without_keys-push : {K V : Type 0} (same : K → K → Bool) (keys : List K) (key : K) (entries : List (K × V)) → without_keys same (keys ++ key ∷ []) entries ≡ filter (λ entry. not (same key entry.0)) (without_keys same keys entries)
without_keys-push same keys key entries =
    filter-filter (λ entry. not (list_any (λ k. same k entry.0) keys)) (λ entry. not (same key entry.0)) (λ entry. not (list_any (λ k. same k entry.0) (keys ++ key ∷ [])))
    (λ entry. rw (list_any-append (λ k. same k entry.0) keys (key ∷ [])) (not_or (list_any (λ k. same k entry.0) keys) (same key entry.0))) entries
  where
    not_or : (a b : Bool) → not (a || (b || false)) ≡ (not a && not b)
    not_or true b = refl
    not_or false true = refl
    not_or false false = refl

-- no keys
pub without_keys-nil : {K V : Type 0} (same : K → K → Bool) (entries : List (K × V)) → without_keys same [] entries ≡ entries
without_keys-nil same [] = refl
without_keys-nil same (entry ∷ entries) = ap (λ l. entry ∷ l) (without_keys-nil same entries)

-- a step of a loop over the keys
pub without_keys-more : {K V : Type 0} {same : K → K → Bool} → IsEquivalence same → (keys : List K) (i : ℕ) (key : K) (entries left : List (K × V))
    → IsDistinct same (keys_of entries) → left ≡ without_keys same (take i keys) entries → i < length keys → key ≡ get_or keys i key → remove_entry (same key) left ≡ without_keys same (take (i + 1) keys) entries
without_keys-more {same = same} laws keys i key entries left distinct is within at =
    let apart : IsDistinct same (keys_of left) = rw is (IsDistinct-keys_filter same (λ entry. not (list_any (λ k. same k entry.0) (take i keys))) entries distinct) in
    let next : take (i + 1) keys ≡ take i keys ++ key ∷ [] = take_more keys i key within ∙ ap (λ k. take i keys ++ k ∷ []) (sym at) in
    remove_entry-distinct laws key left apart ∙ ap (filter (λ entry. not (same key entry.0))) is ∙ sym (without_keys-push same (take i keys) key entries) ∙ ap (λ ks. without_keys same ks entries) (sym next)
