-- What holds of every key.
use Rattle.std.specs.Prelude.{◌≡◌, ◌<◌, ◌≤◌, ◌+◌, ◌==◌, ℕ, List, ◌++◌, codes, Some, false, true}
use Rattle.std.specs.List.{list_any}
use Rattle.std.specs.Str.{IsUtf8}
use Rattle.es_tree.specs.declared.person.Person.{Person}
use Rattle.es_cred.specs.declared.credentials.Credentials.TheVariants.{Key}
use Rattle.es_cred.specs.Credentials.{credentials_of, token_of}
use Rattle.es_keys.specs.declared.kinds.NamedPart.{NamedPart}
use Rattle.es_keys.specs.declared.kinds.NewKey.{NewKey}
use Rattle.es_keys.specs.Keys.{id_of, key_record, is_expired}

-- a field that says `ApiKey` and the token of an id and a secret, both in UTF-8 and the id without a colon, says that key's id and secret
abbrev pub EncodedBack : Type 0
EncodedBack = (id secret : List ℕ) → IsUtf8 id → IsUtf8 secret → list_any (λ b. b == 58) id ≡ false → credentials_of (Some (codes "ApiKey " ++ token_of id secret)) ≡ Key id secret

-- an id is in UTF-8 and has no colon
abbrev pub IdsPlain : Type 0
IdsPlain = (place : ℕ) → (list_any (λ b. b == 58) (id_of place) ≡ false) × IsUtf8 (id_of place)

-- what a client sends of a key that was made says the key's id and secret
abbrev pub MadeBack : Type 0
MadeBack = (owner : Person) (limits : List NamedPart) (asked : NewKey) (place moment : ℕ) (secret : List ℕ) → IsUtf8 secret
    → credentials_of (Some (codes "ApiKey " ++ token_of (key_record owner limits asked place moment secret).id secret)) ≡ Key (key_record owner limits asked place moment secret).id secret

-- different places below 1,000,000,000,000 have different ids
abbrev pub IdsApart : Type 0
IdsApart = (one other : ℕ) → one < 1000000000000 → other < 1000000000000 → id_of one ≡ id_of other → one ≡ other

-- a key that is made with a duration isn't expired before its moment plus its duration, and is from then on
abbrev pub MadeUnexpired : Type 0
MadeUnexpired = (owner : Person) (limits : List NamedPart) (asked : NewKey) (place moment duration later : ℕ) (secret : List ℕ) → asked.expiration ≡ Some duration
    → (later < moment + duration → is_expired (key_record owner limits asked place moment secret) later ≡ false)
    × (moment + duration ≤ later → is_expired (key_record owner limits asked place moment secret) later ≡ true)
