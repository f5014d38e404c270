-- API keys.
use Rattle.std.specs.Prelude.{ℕ, ◌+◌, ◌-◌, Bool, true, false, List, ◌++◌, length, replicate, codes, decimal, bytes_eq, nat_le, Option, Some, None, option_map}
use Rattle.base64.specs.Engines.{url_safe_no_pad}
use Rattle.base64.specs.GeneralPurpose.{encode_of}
use Rattle.es_tree.specs.declared.person.Person.{Person}
use Rattle.es_cred.specs.Digest.{digest_of}
use Rattle.es_keys.specs.declared.kinds.NamedPart.{NamedPart}
use Rattle.es_keys.specs.declared.kinds.KeyRecord.{KeyRecord}
use Rattle.es_keys.specs.declared.kinds.NewKey.{NewKey}

-- the id of the key that the change at this place makes: `key-` and the place in twelve decimal digits, with zeros in front
unfoldable pub id_of : ℕ → List ℕ
id_of place = codes "key-" ++ (replicate (12 - length (decimal place)) 48 ++ decimal place)

-- the secret made of what was drawn: unpadded base64url (RFC 4648, section 5)
unfoldable pub secret_of : List ℕ → List ℕ
secret_of drawn = encode_of url_safe_no_pad drawn

-- when a key made at this moment expires, if it lasts so long
abbrev pub expiry_of : ℕ → Option ℕ → Option ℕ
expiry_of moment duration = option_map (λ d. moment + d) duration

-- what is kept of a key that was asked for, with this secret: the owner and its descriptors as they are now
unfoldable pub key_record : Person → List NamedPart → NewKey → ℕ → ℕ → List ℕ → KeyRecord
key_record owner limits asked place moment secret = record {
  id = id_of place;
  name = asked.name;
  digest = digest_of (id_of place) secret;
  owner = owner;
  made = moment;
  expires = expiry_of moment asked.expiration;
  invalidated = false;
  assigned = asked.assigned;
  limits = limits;
  metadata = asked.metadata;
}

-- the key and its secret
abbrev pub key_made : Person → List NamedPart → NewKey → ℕ → ℕ → List ℕ → KeyRecord × List ℕ
key_made owner limits asked place moment secret = (key_record owner limits asked place moment secret, secret)

-- whether the secret is the key's: the digest of the key's id and the secret is the one that is kept
unfoldable pub is_secret_of : KeyRecord → List ℕ → Bool
is_secret_of kept secret = bytes_eq (digest_of kept.id secret) kept.digest

-- whether the moment is at or past this one, if there is one
abbrev pub is_past : Option ℕ → ℕ → Bool
is_past None moment = false
is_past (Some end) moment = nat_le end moment

-- whether the key has an expiry and the moment is at or past it
unfoldable pub is_expired : KeyRecord → ℕ → Bool
is_expired kept moment = is_past kept.expires moment

-- the key, from now on invalidated
abbrev pub invalidated : KeyRecord → KeyRecord
invalidated kept = record kept { invalidated = true }
