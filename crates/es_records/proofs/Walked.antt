-- What walks over names, descriptors, ids and keys have found, one step further.
use Rattle.std.proofs.Common.{◌≡◌, ℕ, ◌+◌, ◌<◌, ◌≤◌, zero, suc, List, [], ◌∷◌, ◌++◌, map as list_map, length, take, get_or, slice_get, true, false, ◌&&◌, not, if◌then◌else◌, Option, Some, None, option_map, refl, sym, ap, ◌∙◌, arith, append-nil}
use Rattle.std.specs.List.{filter, filter_map}
use Rattle.std.specs.Borrow.{Bor}
use Rattle.std.specs.Option.{unwrap_or, option_copied}
use Rattle.std.specs.Map.{values_of}
use Rattle.std.specs.FinMap as map
use Rattle.std.proofs.lemmas.List.{take_more, take_all, length-map, map-append}
use Rattle.std.proofs.lemmas.List.Elements.{filter-append, filter_map-append}
use Rattle.std.proofs.lemmas.Option.{slice_get_within, unwrap_or-slice_get}
use Rattle.es_role.specs.declared.kinds.Descriptor.{Descriptor}
use Rattle.es_cred.specs.Names.{in_order}
use Rattle.es_keys.specs.declared.kinds.NamedPart.{NamedPart}
use Rattle.es_keys.specs.declared.kinds.KeyRecord.{KeyRecord}
use Rattle.es_map.specs.Entries.{IsRising}
use Rattle.es_map.specs.Views.{text_cmp, map_of}
use Rattle.es_map.proofs.Kept.{values_kept, len_kept}
use Rattle.es_records.specs.declared.invalidating.Invalidation.{Invalidation}
use Rattle.es_records.specs.Records.{RecordsValue, parts_of, before_others, named}
use Rattle.es_records.specs.Keys.{is_owned, ids_of}
use Rattle.es_records.specs.Found.{found_of, joined}

-- ---- names

before_both : (name : List ℕ) (found : Option Descriptor) (xs ys : List NamedPart) → before_others name found (xs ++ ys) ≡ before_others name found xs ++ ys
before_both name None xs ys = refl
before_both name (Some d) xs ys = refl

named_append : (records : RecordsValue) (names more : List (List ℕ)) → named records (names ++ more) ≡ named records names ++ named records more
named_append records [] more = refl
named_append records (name ∷ names) more =
    ap (before_others name (map.get records.roles name)) (named_append records names more) ∙ before_both name (map.get records.roles name) (named records names) (named records more)

-- what is added for a name without a descriptor, and for one that has it
pub added_none : (xs : List NamedPart) (name : List ℕ) (found : Option Descriptor) → None ≡ found → xs ≡ xs ++ before_others name found []
added_none xs name found e = sym (append-nil xs) ∙ ap (λ o. xs ++ before_others name o []) e

pub added_one : (xs new : List NamedPart) (name copy : List ℕ) (found : Option Descriptor) (part : Descriptor) → Some part ≡ found → copy ≡ name → new ≡ xs ++ record { name = copy; part = part } ∷ [] → new ≡ xs ++ before_others name found []
added_one xs new name copy found part e same pushed = pushed ∙ ap (λ n. xs ++ before_others n (Some part) []) same ∙ ap (λ o. xs ++ before_others name o []) e

-- the descriptors of the first names and one more
pub one_name_more : (records : RecordsValue) (names : List (List ℕ)) (i : ℕ) (name : List ℕ) (xs new : List NamedPart) → i < length names → name ≡ get_or names i name → xs ≡ named records (take i names)
    → new ≡ xs ++ before_others name (map.get records.roles name) [] → new ≡ named records (take (i + 1) names)
one_name_more records names i name xs new within at e added =
    let more : take (i + 1) names ≡ take i names ++ name ∷ [] = take_more names i name within ∙ ap (λ k. take i names ++ k ∷ []) (sym at) in
    added ∙ ap (λ l. l ++ before_others name (map.get records.roles name) []) e ∙ sym (named_append records (take i names) (name ∷ [])) ∙ ap (named records) (sym more)

pub all_names : (records : RecordsValue) (names items : List (List ℕ)) (i : ℕ) (xs : List NamedPart) → xs ≡ named records (take i items) → items ≡ names → length items ≤ i → xs ≡ named records names
all_names records names items i xs so_far is past = so_far ∙ ap (named records) (take_all i items past ∙ is)

-- ---- descriptors

pub one_part_more : (given : List NamedPart) (i : ℕ) (one : NamedPart) (xs new : List Descriptor) (share : Descriptor) → i < length given → one ≡ get_or given i one → xs ≡ parts_of (take i given) → share ≡ one.part
    → new ≡ xs ++ share ∷ [] → new ≡ parts_of (take (i + 1) given)
one_part_more given i one xs new share within at e same pushed =
    let more : take (i + 1) given ≡ take i given ++ one ∷ [] = take_more given i one within ∙ ap (λ k. take i given ++ k ∷ []) (sym at) in
    pushed ∙ (λ j. e j ++ same j ∷ []) ∙ sym (map-append (λ (n : NamedPart). n.part) (take i given) (one ∷ [])) ∙ ap parts_of (sym more)

-- ---- keys that are found

pub nothing : {T : Type 0} (o : Option (Bor T)) (x : Option T) → option_copied o ≡ x → ((b : Bor T) → o ≡ Some b → ⊥) → x ≡ None
nothing None x is none = sym is
nothing (Some b) x is none = absurd (none b refl)

module _ (owner : Option (List ℕ)) where
  pub found_more : (xs ys : List KeyRecord) → found_of owner (xs ++ ys) ≡ joined (found_of owner xs) (found_of owner ys)
  found_more xs ys = λ i. record {
    newly = (ap ids_of (filter-append (λ (k : KeyRecord). is_owned owner k && not k.invalidated) xs ys)
        ∙ map-append (λ (k : KeyRecord). k.id) (filter (λ (k : KeyRecord). is_owned owner k && not k.invalidated) xs) (filter (λ (k : KeyRecord). is_owned owner k && not k.invalidated) ys)) i;
    previously = (ap ids_of (filter-append (λ (k : KeyRecord). is_owned owner k && k.invalidated) xs ys)
        ∙ map-append (λ (k : KeyRecord). k.id) (filter (λ (k : KeyRecord). is_owned owner k && k.invalidated) xs) (filter (λ (k : KeyRecord). is_owned owner k && k.invalidated) ys)) i;
  }

  nothing_joined : (old : Invalidation) → old ≡ joined old (record { newly = []; previously = [] })
  nothing_joined old = λ i. record { newly = sym (append-nil old.newly) i; previously = sym (append-nil old.previously) i }

  -- what one key adds, by what holds of it
  pub adds_other : (old : Invalidation) (kept : KeyRecord) → is_owned owner kept ≡ false → old ≡ joined old (found_of owner (kept ∷ []))
  adds_other old kept owned = nothing_joined old ∙ (λ i. joined old (record {
    newly = ids_of (if (sym owned i && not kept.invalidated) then kept ∷ [] else []);
    previously = ids_of (if (sym owned i && kept.invalidated) then kept ∷ [] else []);
  }))

  pub adds_previous : (old : Invalidation) (more : List (List ℕ)) (copy : List ℕ) (kept : KeyRecord) → is_owned owner kept ≡ true → kept.invalidated ≡ true → copy ≡ kept.id → more ≡ old.previously ++ copy ∷ []
      → record { newly = old.newly; previously = more } ≡ joined old (found_of owner (kept ∷ []))
  adds_previous old more copy kept owned was same pushed = (λ i. record { newly = sym (append-nil old.newly) i; previously = (pushed ∙ ap (λ c. old.previously ++ c ∷ []) same) i }) ∙ (λ i. joined old (record {
    newly = ids_of (if (sym owned i && not (sym was i)) then kept ∷ [] else []);
    previously = ids_of (if (sym owned i && sym was i) then kept ∷ [] else []);
  }))

  pub adds_new : (old : Invalidation) (more : List (List ℕ)) (copy : List ℕ) (kept : KeyRecord) → is_owned owner kept ≡ true → kept.invalidated ≡ false → copy ≡ kept.id → more ≡ old.newly ++ copy ∷ []
      → record { newly = more; previously = old.previously } ≡ joined old (found_of owner (kept ∷ []))
  adds_new old more copy kept owned was same pushed = (λ i. record { newly = (pushed ∙ ap (λ c. old.newly ++ c ∷ []) same) i; previously = sym (append-nil old.previously) i }) ∙ (λ i. joined old (record {
    newly = ids_of (if (sym owned i && not (sym was i)) then kept ∷ [] else []);
    previously = ids_of (if (sym owned i && sym was i) then kept ∷ [] else []);
  }))

  -- the keys of the first ids and of one more
  module _ (keys : map.FinMap text_cmp KeyRecord) (ids : List (List ℕ)) (at : ℕ) (id : List ℕ) (within : at < length ids) (is : id ≡ get_or ids at id) (before : Invalidation)
      (so_far : before ≡ found_of owner (filter_map (λ q. map.get keys q) (take at ids))) where
    more_ids : filter_map (λ q. map.get keys q) (take (at + 1) ids) ≡ filter_map (λ q. map.get keys q) (take at ids) ++ filter_map (λ q. map.get keys q) (id ∷ [])
    more_ids =
        ap (filter_map (λ q. map.get keys q)) (take_more ids at id within ∙ ap (λ k. take at ids ++ k ∷ []) (sym is)) ∙ filter_map-append (λ q. map.get keys q) (take at ids) (id ∷ [])

    pub id_found : (kept : KeyRecord) (new : Invalidation) → map.get keys id ≡ Some kept → new ≡ joined before (found_of owner (kept ∷ [])) → new ≡ found_of owner (filter_map (λ q. map.get keys q) (take (at + 1) ids))
    id_found kept new stands added =
        added ∙ (λ i. joined (so_far i) (found_of owner (kept ∷ []))) ∙ sym (found_more (filter_map (λ q. map.get keys q) (take at ids)) (kept ∷ []))
        ∙ ap (λ l. found_of owner (filter_map (λ q. map.get keys q) (take at ids) ++ l)) (sym (only_found (map.get keys id) kept stands)) ∙ ap (found_of owner) (sym more_ids)
      where
        only_found : (o : Option KeyRecord) (k : KeyRecord) → o ≡ Some k → filter_map (λ (q : Option KeyRecord). q) (o ∷ []) ≡ k ∷ []
        only_found o k e = ap (λ u. filter_map (λ (q : Option KeyRecord). q) (u ∷ [])) e

    pub id_unknown : map.get keys id ≡ None → before ≡ found_of owner (filter_map (λ q. map.get keys q) (take (at + 1) ids))
    id_unknown none =
        so_far ∙ ap (found_of owner) (sym (append-nil (filter_map (λ q. map.get keys q) (take at ids))))
        ∙ ap (λ o. found_of owner (filter_map (λ q. map.get keys q) (take at ids) ++ filter_map (λ (u : Option KeyRecord). u) (o ∷ []))) (sym none) ∙ ap (found_of owner) (sym more_ids)

  -- the keys of all ids
  pub all_ids : (keys : map.FinMap text_cmp KeyRecord) (ids ordered : List (List ℕ)) (at : ℕ) (found : Invalidation) → ordered ≡ in_order ids → length ordered ≤ at
      → found ≡ found_of owner (filter_map (λ q. map.get keys q) (take at ordered)) → found ≡ found_of owner (filter_map (λ q. map.get keys q) (in_order ids))
  all_ids keys ids ordered at found is past so_far = so_far ∙ ap (λ l. found_of owner (filter_map (λ q. map.get keys q) l)) (take_all at ordered past ∙ is)

  -- the first keys and one more
  pub key_more : (keys : List KeyRecord) (at : ℕ) (kept : KeyRecord) (before new : Invalidation) → slice_get keys at ≡ Some kept → before ≡ found_of owner (take at keys) → new ≡ joined before (found_of owner (kept ∷ [])) → new ≡ found_of owner (take (at + 1) keys)
  key_more keys at kept before new stands so_far added =
      let more : take (at + 1) keys ≡ take at keys ++ kept ∷ [] =
      take_more keys at kept (slice_get_within keys at kept stands) ∙ ap (λ y. take at keys ++ y ∷ []) (sym (unwrap_or-slice_get keys at kept) ∙ ap (λ o. unwrap_or o kept) stands) in
      added ∙ (λ i. joined (so_far i) (found_of owner (kept ∷ []))) ∙ sym (found_more (take at keys) (kept ∷ [])) ∙ ap (found_of owner) (sym more)

-- ---- places of keys

nothing_there : {E : Type 0} (es : List E) (i : ℕ) → None ≡ slice_get es i → i < length es → ⊥
nothing_there [] i e h = omega arith
nothing_there (a ∷ es) zero e h = cc
nothing_there (a ∷ es) (suc i) e h = nothing_there es i e (omega arith)

-- an entry stands at each place below their number
pub stands_there : {E B : Type 0} (f : B → E) (es : List E) (i n : ℕ) (o : Option B) → option_map f o ≡ slice_get es i → n ≡ length es → i < n → ((b : B) → o ≡ Some b → ⊥) → ⊥
stands_there f es i n None told is below none = nothing_there es i told (omega arith)
stands_there f es i n (Some b) told is below none = none b refl

image_at : {E Y : Type 0} (f : E → Y) (es : List E) (i : ℕ) (e : E) → slice_get es i ≡ Some e → slice_get (list_map f es) i ≡ Some (f e)
image_at f [] i e h = absurd (cc)
image_at f (a ∷ es) zero e h = let same : a ≡ e = cc in ap (λ x. Some (f x)) same
image_at f (a ∷ es) (suc i) e h = image_at f es i e h

module _ (keys : List (List ℕ × KeyRecord)) (rising : IsRising keys) (seen : map.FinMap text_cmp KeyRecord) (view : map_of keys ≡ seen) where
  pub count_seen : map.len seen ≡ length keys
  count_seen = ap (λ (m : map.FinMap text_cmp KeyRecord). map.len m) (sym view) ∙ len_kept keys rising

  values_seen : map.values seen ≡ values_of keys
  values_seen = ap (λ (m : map.FinMap text_cmp KeyRecord). map.values m) (sym view) ∙ values_kept keys rising

  pub value_at : (i : ℕ) (e : List ℕ × KeyRecord) → Some e ≡ slice_get keys i → slice_get (map.values seen) i ≡ Some e.1
  value_at i e at = ap (λ vs. slice_get vs i) values_seen ∙ image_at (λ f. f.1) keys i e (sym at)

  pub key_there : (i : ℕ) → None ≡ slice_get keys i → i < map.len seen → ⊥
  key_there i none within = let count = count_seen in nothing_there keys i none (omega (arith, count, within))

-- all of them
pub all_values : (seen : map.FinMap text_cmp KeyRecord) (i : ℕ) → map.len seen ≤ i → take i (map.values seen) ≡ map.values seen
all_values seen i past = take_all i (map.values seen) (omega (arith, length-map (map.entries seen) (λ (e : List ℕ × KeyRecord). e.1), map.len-entries seen))

pub all_found : (owner : Option (List ℕ)) (seen : map.FinMap text_cmp KeyRecord) (i n : ℕ) (found : Invalidation) → found ≡ found_of owner (take i (map.values seen)) → n ≡ map.len seen → n ≤ i → found ≡ found_of owner (map.values seen)
all_found owner seen i n found so_far count past = so_far ∙ ap (found_of owner) (all_values seen i (omega (arith, count, past)))
