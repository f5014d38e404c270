-- What private clauses say of keys that are looked up.
use Rattle.std.specs.Prelude.{ℕ, ◌&&◌, not, List, ◌++◌, Option, Some, None, if◌then◌else◌, bytes_eq}
use Rattle.std.specs.List.{filter}
use Rattle.es_keys.specs.declared.kinds.KeyRecord.{KeyRecord}
use Rattle.es_keys.specs.declared.kinds.Caller.{Caller}
use Rattle.es_keys.specs.declared.kinds.Caller.TheVariants as caller
use Rattle.es_keys.specs.Keys.{is_expired}
use Rattle.es_records.specs.declared.invalidating.Invalidation.{Invalidation}
use Rattle.es_records.specs.Keys.{is_owned, ids_of}

-- the key, if the digest is the key's, it isn't invalidated, and the moment isn't at or past its expiry
abbrev pub key_by : List ℕ → ℕ → Option KeyRecord → Option Caller
key_by digest moment None = None
key_by digest moment (Some kept) = if bytes_eq digest kept.digest && (not kept.invalidated && not (is_expired kept moment)) then Some (caller.Key kept) else None

-- what an invalidation finds of these keys
abbrev pub found_of : Option (List ℕ) → List KeyRecord → Invalidation
found_of owner keys = record {
  newly = ids_of (filter (λ kept. is_owned owner kept && not kept.invalidated) keys);
  previously = ids_of (filter (λ kept. is_owned owner kept && kept.invalidated) keys);
}

-- what is found of keys and then of more of them
abbrev pub joined : Invalidation → Invalidation → Invalidation
joined one more = record { newly = one.newly ++ more.newly; previously = one.previously ++ more.previously }
