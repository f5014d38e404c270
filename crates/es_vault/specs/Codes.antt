-- How a vault and the names of halves are stored.
use Rattle.std.specs.Prelude.{ℕ, List, Option, refl}
use Rattle.std.specs.Coded.{Coded, code_by, coded×, coded_ℕ, coded_list}
use Rattle.es_cache.specs.Cache.{Cache, cache_code}
use Rattle.es_role.specs.declared.kinds.Descriptor.{Descriptor}
use Rattle.es_role.specs.contracts.kinds.Descriptor as descriptor
use Rattle.es_keys.specs.declared.kinds.RoleKey.{RoleKey}
use Rattle.es_keys.specs.contracts.kinds.RoleKey as role_key
use Rattle.es_records.specs.Records.{RecordsValue}
use Rattle.es_records.specs.Codes.{records_code}
use Rattle.es_catalog.specs.Catalog.{CatalogValue}
use Rattle.es_catalog.specs.Codes.{catalog_code}
use Rattle.es_vault.specs.World.{PlacedWorld}
use Rattle.es_vault.specs.Vault.{VaultValue}

abbrev pub placed_code : Coded PlacedWorld
placed_code =
    code_by ((RecordsValue × CatalogValue) × (ℕ × ℕ)) (coded× (coded× records_code catalog_code) (coded× coded_ℕ coded_ℕ))
    (λ at. ((at.world.records, at.world.catalog), (at.place, at.weight)))
    (λ p. record { world = record { records = p.0.0; catalog = p.0.1 }; place = p.1.0; weight = p.1.1 }) (λ _. refl)

abbrev pub roles_code : Coded (Cache RoleKey (List Descriptor))
roles_code = cache_code role_key.the_row.coded (coded_list descriptor.the_row.coded)

abbrev pub vault_code : Coded VaultValue
vault_code =
    code_by (PlacedWorld × (ℕ × Cache RoleKey (List Descriptor))) (coded× placed_code (coded× coded_ℕ roles_code))
    (λ v. (v.at, (v.limit, v.roles))) (λ p. record { at = p.0; limit = p.1.0; roles = p.1.1 }) (λ _. refl)
