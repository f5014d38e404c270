-- The cache after a change of users, roles or keys.
use Rattle.std.proofs.Common.{◌≡◌, ℕ, ◌+◌, List, filter, Bool, true, not, sym, ap, ◌∙◌}
use Rattle.std.specs.Map.{keys_of}
use Rattle.es_cache.specs.Cache.{Cache, with_entries}
use Rattle.es_cache.specs.Entries.{without_keys}
use Rattle.es_cache.proofs.CallerLemmas.{without_keys-doomed}
use Rattle.es_role.specs.declared.kinds.Descriptor.{Descriptor}
use Rattle.es_keys.specs.declared.kinds.RoleKey.{RoleKey}
use Rattle.es_records.specs.Records.{RecordsValue}
use Rattle.es_records.specs.Changes.{with_security, drops}
use Rattle.es_records.specs.declared.change.SecurityChange.{SecurityChange}
use Rattle.es_vault.specs.World.{security}
use Rattle.es_vault.specs.Keys.{same_key}
use Rattle.es_vault.specs.Same.{same_key_equiv, same_key_decides}
use Rattle.es_vault.specs.Vault.{Roles, VaultValue, vault_of, changed_by, kept_by}

-- the keys that a change drops, taken out, leave what it keeps
dropped : (change : SecurityChange) (roles : Roles) → without_keys same_key (filter (drops change) (keys_of roles)) roles ≡ kept_by (security change) roles
dropped change roles = without_keys-doomed same_key_equiv (drops change) (λ x y same. ap (drops change) ((same_key_decides x y).0 same)) roles

-- the cache after a change
abbrev pub roles_by : VaultValue → SecurityChange → Cache RoleKey (List Descriptor)
roles_by v change = record { entries = kept_by (security change) v.roles.entries; count = v.roles.count + 1; capacity = v.roles.capacity }

pub roles_after : (seen v : VaultValue) → seen ≡ v → (change : SecurityChange) (keys : List RoleKey) (left raised : Cache RoleKey (List Descriptor))
    → keys ≡ filter (drops change) (keys_of seen.roles.entries) → left ≡ with_entries v.roles (without_keys same_key keys v.roles.entries)
    → raised ≡ record left { count = left.count + 1 } → raised ≡ roles_by v change
roles_after seen v same change keys left raised doomed out up =
    up
    ∙ ap (λ (c : Cache RoleKey (List Descriptor)). record c { count = c.count + 1 }) out
    ∙ ap (λ (ks : List RoleKey). record { entries = without_keys same_key ks v.roles.entries; count = v.roles.count + 1; capacity = v.roles.capacity }) (doomed ∙ ap (λ (u : VaultValue). filter (drops change) (keys_of u.roles.entries)) same)
    ∙ ap (λ (es : Roles). record { entries = es; count = v.roles.count + 1; capacity = v.roles.capacity }) (dropped change v.roles.entries)

-- the vault after it
pub changed_security : (v : VaultValue) (change : SecurityChange) (weight : ℕ) (records : RecordsValue) (roles : Cache RoleKey (List Descriptor))
    → records ≡ with_security v.at.world.records change → roles ≡ roles_by v change
    → vault_of records v.at.world.catalog (v.at.place + 1) (v.at.weight + weight) v.limit roles ≡ changed_by v (record { caller = 0; weight = weight; change = security change })
changed_security v change weight records roles is are = λ i. vault_of (is i) v.at.world.catalog (v.at.place + 1) (v.at.weight + weight) v.limit (are i)
