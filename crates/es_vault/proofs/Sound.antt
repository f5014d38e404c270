-- What keeps a vault sound.
use Rattle.std.proofs.Common.{◌≡◌, ℕ, ◌+◌, ◌<◌, ◌≤◌, ◌^◌, List, [], ◌∷◌, ◌++◌, length, filter, All, Contains, Bool, true, false, cond, not, nat_le, Option, Some, None, refl, sym, ap, subst, ◌∙◌, arith}
use Rattle.std.proofs.lemmas.List.Elements.{All-weaker, All-contains, All-contains_itself, All-filter, filter_passes}
use Rattle.std.proofs.lemmas.Bool.{leb-true, leb-false}
use Rattle.es_response.specs.Reply.{ReplyValue}
use Rattle.es_reply.specs.Bodies as reply
use Rattle.es_cache.specs.Cache.{Cache, no_entries}
use Rattle.es_cache.specs.Entries.{brought_first, put_first}
use Rattle.es_cache.proofs.CallerLemmas.{All-brought_first, All-put_first}
use Rattle.es_role.specs.declared.kinds.Descriptor.{Descriptor}
use Rattle.es_keys.specs.declared.kinds.RoleKey.{RoleKey}
use Rattle.es_records.specs.declared.change.SecurityChange.{SecurityChange}
use Rattle.es_records.specs.Records.{RecordsValue}
use Rattle.es_records.specs.Changes.{with_security, Fits, drops}
use Rattle.es_records.specs.Laws.{count_of}
use Rattle.es_records.proofs.Lasting.{drops_tell, standing_stays}
use Rattle.es_catalog.specs.declared.change.DocChange.{DocChange}
use Rattle.es_catalog.specs.declared.change.DocChange.TheVariants.{CreateIndex, DeleteIndex, Put, Delete}
use Rattle.es_catalog.specs.Catalog.{CatalogValue, document_at}
use Rattle.es_catalog.specs.Changes.{version_of, number_of, CanGrow}
use Rattle.es_vault.specs.World.{World, Change, opening, security, doc, Entry, opening_world, apply, replay, opening_entry, security_in, security_count, weight_of, PlacedWorld, StandsFor}
use Rattle.es_vault.specs.Answer.{full, weight_limit}
use Rattle.es_vault.specs.Replayable.{FitsAt, IsReplayable}
use Rattle.es_vault.specs.Versions.{HasVersionsUpTo}
use Rattle.es_vault.specs.Keys.{same_key}
use Rattle.es_vault.specs.Same.{same_key_equiv, same_key_decides}
use Rattle.es_vault.specs.Vault.{Roles, VaultValue, IsRight, AreRight, IsSoundFor, with_roles, with_role, brought_all, kept_by, counted, changed_by}
use Rattle.es_vault.proofs.Journal.{stands-push, replayable-push, security-push, count_within, versions_within, HasKeysUpTo, keys_within, fits_next}

-- ---- room

room_left : (limit : ℕ) (at : PlacedWorld) (asks : ℕ) (b c : Bool) → nat_le limit at.place ≡ b → nat_le (at.weight + asks) weight_limit ≡ c
    → (cond b (Some (reply.journal_full_entries at.place limit)) (cond c None (Some (reply.journal_full_bytes at.weight weight_limit asks)))) ≡ None
    → (at.place + 1 ≤ limit) × (at.weight + asks ≤ weight_limit)
room_left limit at asks true c entries bytes none = cc none
room_left limit at asks false false entries bytes none = cc none
room_left limit at asks false true entries bytes none =
    let less = leb-false limit at.place entries in (omega (arith, less), leb-true (at.weight + asks) weight_limit bytes)

pub has_room : (limit : ℕ) (at : PlacedWorld) (asks : ℕ) → full limit at asks ≡ None → (at.place + 1 ≤ limit) × (at.weight + asks ≤ weight_limit)
has_room limit at asks none = room_left limit at asks (nat_le limit at.place) (nat_le (at.weight + asks) weight_limit) refl refl none

-- ---- composed roles

kept_not : (b : Bool) → not b ≡ true → b ≡ false
kept_not true h = cc h
kept_not false h = refl

kept_one : (records : RecordsValue) (change : SecurityChange) (pair : RoleKey × List Descriptor) → Fits records change → IsRight records pair → not (drops change pair.0) ≡ true → IsRight (with_security records change) pair
kept_one records change pair fits right passes = record {
  roles = right.roles ∙ sym (drops_tell records change pair.0 right.stands fits (kept_not (drops change pair.0) passes));
  stands = standing_stays records change pair.0 right.stands;
}

kept_right : (w : World) (n : ℕ) (c : Change) (roles : Roles) → ((change : SecurityChange) → c ≡ security change → Fits w.records change)
    → AreRight w.records roles → AreRight (apply w n c).records (kept_by c roles)
kept_right w n opening roles fits right = right
kept_right w n (security change) roles fits right =
    let passes : (RoleKey × List Descriptor → Bool) = λ pair. not (drops change pair.0) in
    let kept : Roles = filter passes roles in
    All-weaker (Contains kept) (IsRight (with_security w.records change))
    (λ pair there. kept_one w.records change pair (fits change refl) (All-contains (IsRight w.records) kept pair (All-filter passes (IsRight w.records) roles right) there)
    (All-contains (λ p. passes p ≡ true) kept pair (filter_passes passes roles) there))
    kept (All-contains_itself kept)
kept_right w n (doc change) roles fits right = right

counted_is : (c : Change) (n : ℕ) → counted c n ≡ n + count_of (security_in c ∷ [])
counted_is opening n = omega arith
counted_is (security change) n = omega arith
counted_is (doc change) n = omega arith

-- ---- a sound vault

module _ (secret : List ℕ) (journal : List Entry) (v : VaultValue) (sound : IsSoundFor secret journal v) where
  pub is_positive : 0 < v.at.place
  is_positive =
      let opens = ap (λ (K : List Entry). length K) sound.replayable.opens in
      let place = sound.stands.place in
      subst (λ (k : ℕ). 0 < k) (sym (place ∙ opens)) (omega arith)

  pub is_small : v.at.place ≤ 200000
  is_small = let room = sound.room in let limit = sound.limit in omega (arith, room, limit)

  pub count_small : v.roles.count ≤ 200000
  count_small =
      let count = sound.count in let within = count_within journal in let place = sound.stands.place in let small = is_small in
      omega (arith, count, within, place, small)

  pub versions_small : (name id : List ℕ) → number_of (version_of (document_at v.at.world.catalog name id)) < 2 ^ 63
  versions_small name id =
      let all : HasVersionsUpTo v.at.place v.at.world.catalog =
      subst (λ (k : ℕ). HasVersionsUpTo k v.at.world.catalog) (sym sound.stands.place)
      (subst (λ (w : World). HasVersionsUpTo (length journal) w.catalog) (sym sound.stands.world) (versions_within secret journal sound.replayable)) in
      let one = all name id in let small = is_small in omega (arith, one, small)

  keys_free : HasKeysUpTo v.at.place v.at.world.records
  keys_free =
      subst (λ (k : ℕ). HasKeysUpTo k v.at.world.records) (sym sound.stands.place)
      (subst (λ (w : World). HasKeysUpTo (length journal) w.records) (sym sound.stands.world) (keys_within secret journal sound.replayable))

  -- a change that fits at the next place fits the records
  pub fits_now : (change : SecurityChange) → FitsAt (v.at.place + 1) (security change) → Fits v.at.world.records change
  fits_now change fits = let small = is_small in fits_next v.at.place v.at.world.records change keys_free (omega (arith, small)) fits

  fits_as : (c : Change) → FitsAt (v.at.place + 1) c → (change : SecurityChange) → c ≡ security change → Fits v.at.world.records change
  fits_as c fits change is = fits_now change (subst (FitsAt (v.at.place + 1)) is fits)

  -- it is sound after an entry that fits and for which there is room
  pub sound_after : (e : Entry) → full v.limit v.at e.weight ≡ None → FitsAt (v.at.place + 1) e.change → IsSoundFor secret (journal ++ e ∷ []) (changed_by v e)
  sound_after e none fits =
      let room = has_room v.limit v.at e.weight none in
      record {
        replayable = replayable-push journal e sound.replayable (subst (λ (k : ℕ). FitsAt (k + 1) e.change) sound.stands.place fits);
        stands = stands-push (opening_world secret) journal v.at e sound.stands;
        count = counted_is e.change v.roles.count ∙ ap (λ (k : ℕ). k + count_of (security_in e.change ∷ [])) sound.count ∙ sym (security-push journal e);
        right = kept_right v.at.world (v.at.place + 1) e.change v.roles.entries (fits_as e.change fits) sound.right;
        room = room.0;
        limit = sound.limit;
        weight = room.1;
      }

  -- and after its cache was filled otherwise, with right roles
  pub sound_with : (roles : Roles) → AreRight v.at.world.records roles → IsSoundFor secret journal (with_roles v roles)
  sound_with roles right =
      record { replayable = sound.replayable; stands = sound.stands; count = sound.count; right = right; room = sound.room; limit = sound.limit; weight = sound.weight }

  pub right_put : (key : RoleKey) (role : List Descriptor) → IsRight v.at.world.records (key, role) → AreRight v.at.world.records (put_first same_key v.roles.capacity key role v.roles.entries)
  right_put key role right =
      All-put_first (IsRight v.at.world.records) same_key same_key_equiv v.roles.capacity key role v.roles.entries
      (λ stored same. subst (λ (k : RoleKey). IsRight v.at.world.records (k, role)) ((same_key_decides key stored).0 same) right) sound.right

pub right_brought : (records : RecordsValue) (keys : List RoleKey) (roles : Roles) → AreRight records roles → AreRight records (brought_all keys roles)
right_brought records [] roles right = right
right_brought records (key ∷ keys) roles right = right_brought records keys (brought_first (same_key key) roles) (All-brought_first (IsRight records) (same_key key) roles right)

-- ---- a new vault

pub sound_opened : (secret : List ℕ) (limit capacity : ℕ) → 1 ≤ limit → limit ≤ 200000
    → IsSoundFor secret (opening_entry ∷ []) (record { at = record { world = opening_world secret; place = 1; weight = 0 }; limit = limit; roles = no_entries capacity })
unfolding replay
sound_opened secret limit capacity least most = record {
  replayable = record { entries = []; opens = refl; fit = tt };
  stands = record { world = refl; place = refl; weight = refl };
  count = refl;
  right = λ k d within. absurd (omega (arith, within));
  room = least;
  limit = most;
  weight = omega arith;
}

-- versions that are all below the limit can grow
pub grows : (catalog : CatalogValue) (change : DocChange) → ((name id : List ℕ) → number_of (version_of (document_at catalog name id)) < 2 ^ 63) → CanGrow catalog change
grows catalog (CreateIndex name mapping) small = tt
grows catalog (DeleteIndex name) small = tt
grows catalog (Put name id document) small = small name id
grows catalog (Delete name id) small = tt
