-- A new vault, and one whose cache was filled.
use Rattle.std.proofs.Common.{◌≡◌, ℕ, ◌+◌, ◌≤◌, List, [], ◌∷◌, Bool, true, false, Result, Ok, Err, sym, subst, refl, ◌∙◌}
use Rattle.std.specs.Prelude.{◌==◌, ◌≢◌, OnOk, OnErr, IfOk}
use Rattle.std.specs.FinMap as map
use Rattle.std.proofs.lemmas.Bool.Decides.{Decides-eqb}
use Rattle.es_base.specs.declared.memory.NoMemory.{NoMemory}
use Rattle.es_cache.specs.Cache.{Cache, no_entries, with_entries}
use Rattle.es_cache.specs.Entries.{put_first}
use Rattle.es_cache.specs.declared.published.Published.{Published}
use Rattle.es_role.specs.declared.kinds.Descriptor.{Descriptor}
use Rattle.es_keys.specs.declared.kinds.RoleKey.{RoleKey}
use Rattle.es_records.specs.Records.{RecordsValue, opening_records}
use Rattle.es_catalog.specs.Catalog.{CatalogValue}
use Rattle.es_vault.specs.World.{Entry, opening_entry}
use Rattle.es_vault.specs.Keys.{same_key}
use Rattle.es_vault.specs.Vault.{VaultValue, IsRight, IsSoundFor, vault_of}
use Rattle.es_vault.proofs.Sound.{sound_opened, sound_with, right_put}

abbrev CacheValue : Type 0
CacheValue = Cache RoleKey (List Descriptor)

pub sound_made : (secret : List ℕ) (limit capacity : ℕ) (records : RecordsValue) (catalog : CatalogValue) (roles : CacheValue)
    → records ≡ opening_records secret → catalog ≡ map.empty → roles ≡ no_entries capacity → 1 ≤ limit → limit ≤ 200000 → IsSoundFor secret (opening_entry ∷ []) (vault_of records catalog 1 0 limit roles)
sound_made secret limit capacity records catalog roles is none empty least most =
    let whole : vault_of (opening_records secret) map.empty 1 0 limit (no_entries capacity) ≡ vault_of records catalog 1 0 limit roles = λ i. vault_of (sym is i) (sym none i) 1 0 limit (sym empty i) in
    subst (IsSoundFor secret (opening_entry ∷ [])) whole (sound_opened secret limit capacity least most)

module _ (secret : List ℕ) (journal : List Entry) (v : VaultValue) (sound : IsSoundFor secret journal v) (new : CacheValue) where
  -- a cache that is as it was
  stays : new ≡ v.roles → IsSoundFor secret journal (record v { roles = new })
  stays same = subst (λ (roles : CacheValue). IsSoundFor secret journal (record v { roles = roles })) (sym same) sound

  -- one into which a right role was put
  puts : (key : RoleKey) (role : List Descriptor) → IsRight v.at.world.records (key, role) → new ≡ with_entries v.roles (put_first same_key v.roles.capacity key role v.roles.entries)
      → IsSoundFor secret journal (record v { roles = new })
  puts key role right same =
      subst (λ (roles : CacheValue). IsSoundFor secret journal (record v { roles = roles })) (sym same)
      (sound_with secret journal v sound (put_first same_key v.roles.capacity key role v.roles.entries) (right_put secret journal v sound key role right))

  module _ (began : ℕ) (key : RoleKey) (role : List Descriptor) (result : Result Published NoMemory) (right : began ≡ v.roles.count → IsRight v.at.world.records (key, role))
      (put : began ≡ v.roles.count → OnOk result (new ≡ with_entries v.roles (put_first same_key v.roles.capacity key role v.roles.entries)))
      (stale : began ≢ v.roles.count → new ≡ v.roles) (err : OnErr result (new ≡ v.roles)) where
    equal_counts : (r : Result Published NoMemory) → result ≡ r → began ≡ v.roles.count → IsSoundFor secret journal (record v { roles = new })
    equal_counts (Ok x) is same = puts key role (right same) (subst (λ (r : Result Published NoMemory). OnOk r (new ≡ with_entries v.roles (put_first same_key v.roles.capacity key role v.roles.entries))) is (put same))
    equal_counts (Err e) is same = stays (subst (λ (r : Result Published NoMemory). OnErr r (new ≡ v.roles)) is err)

    pub published : IsSoundFor secret journal (record v { roles = new })
    published =
        (elim (began == v.roles.count) as (λ b. (began == v.roles.count) ≡ b → IsSoundFor secret journal (record v { roles = new })) [
          | true ↦ λ t. equal_counts result refl ((Decides-eqb began v.roles.count).0 t)
          | false ↦ λ f. stays (stale (λ same. let t = (Decides-eqb began v.roles.count).1 same in let clash : true ≡ false = sym t ∙ f in cc))
        ]) refl
