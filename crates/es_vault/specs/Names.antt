-- The names of a subject's halves.
use Rattle.std.specs.Prelude.{List, ◌∷◌, ◌++◌}
use Rattle.es_keys.specs.declared.kinds.RoleKey.{RoleKey}
use Rattle.es_keys.specs.declared.kinds.Subject.{Subject}
use Rattle.es_records.specs.Halves.{first_name, limit_name, target_name}
use Rattle.es_records.specs.Laws.{listed}
use Rattle.es_vault.specs.declared.names.HalfKeys.{HalfKeys}

-- the names of a subject's halves: the caller's first, its limiting one if it has one, and that of the user as whom it runs
abbrev pub keys_for : Subject → HalfKeys
keys_for subject = record { first = first_name subject.caller; limit = limit_name subject.caller; target = target_name subject.target }

-- in the order of the steps
abbrev pub key_list : HalfKeys → List RoleKey
key_list keys = keys.first ∷ (listed keys.limit ++ listed keys.target)
