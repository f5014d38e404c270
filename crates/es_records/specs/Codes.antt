-- How records are stored.
use Rattle.std.specs.Prelude.{refl}
use Rattle.std.specs.Coded.{Coded, code_by, coded×}
use Rattle.std.specs.FinMap as map
use Rattle.es_role.specs.declared.kinds.Descriptor.{Descriptor}
use Rattle.es_role.specs.contracts.kinds.Descriptor as descriptor
use Rattle.es_cred.specs.declared.users.UserRecord.{UserRecord}
use Rattle.es_cred.specs.contracts.users.UserRecord as user
use Rattle.es_keys.specs.declared.kinds.KeyRecord.{KeyRecord}
use Rattle.es_keys.specs.contracts.kinds.KeyRecord as key
use Rattle.es_map.specs.Views.{text_cmp, text_code}
use Rattle.es_records.specs.Records.{RecordsValue}

abbrev pub records_code : Coded RecordsValue
records_code =
    code_by (map.FinMap text_cmp UserRecord × (map.FinMap text_cmp Descriptor × map.FinMap text_cmp KeyRecord))
    (coded× (map.code text_code user.the_row.coded) (coded× (map.code text_code descriptor.the_row.coded) (map.code text_code key.the_row.coded)))
    (λ records. (records.users, (records.roles, records.keys))) (λ p. record { users = p.0; roles = p.1.0; keys = p.1.1 }) (λ _. refl)
