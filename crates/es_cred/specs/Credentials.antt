-- What the field `authorization` says.
use Rattle.std.specs.Prelude.{◌≡◌, ⊤, ℕ, ◌==◌, ◌&&◌, if◌then◌else◌, List, [], ◌∷◌, ◌++◌, take, drop, codes, Option, Some, None, option_map}
use Rattle.std.specs.Option.{option_or}
use Rattle.std.specs.List.{list_any, before_first, after_first}
use Rattle.std.specs.Str.{is_utf8, str_eq_ignore_ascii_case}
use Rattle.std.specs.Result.{result_ok}
use Rattle.base64.specs.Engines.{standard}
use Rattle.base64.specs.GeneralPurpose.{decode_of, encode_of}
use Rattle.es_cred.specs.declared.credentials.Credentials.{Credentials}
use Rattle.es_cred.specs.declared.credentials.Credentials.TheVariants.{User, Key, Absent, Malformed}
use Rattle.es_cred.specs.declared.credentials.Scheme.{Scheme}
use Rattle.es_cred.specs.declared.credentials.Scheme.TheVariants.{Bearer, ApiKey}

-- the bytes from the first that is no space
abbrev pub skip_spaces : List ℕ → List ℕ
skip_spaces [] = []
skip_spaces (b ∷ bytes) = if b == 32 then skip_spaces bytes else b ∷ bytes

-- what follows one or more spaces
abbrev pub after_spaces : List ℕ → Option (List ℕ)
after_spaces [] = None
after_spaces (b ∷ bytes) = if b == 32 then Some (skip_spaces bytes) else None

-- the token behind a word of six letters, in any mix of upper and lower case, and one or more spaces
abbrev pub token_behind : List ℕ → List ℕ → Option (List ℕ)
token_behind word value = if str_eq_ignore_ascii_case (take 6 value) word then after_spaces (drop 6 value) else None

-- the scheme that the field names, and the token behind it
unfoldable pub scheme_of : List ℕ → Option (Scheme × List ℕ)
scheme_of value = option_or (option_map (λ token. (Bearer, token)) (token_behind (codes "Bearer") value)) (option_map (λ token. (ApiKey, token)) (token_behind (codes "ApiKey") value))

-- a user's name and secret, or an API key's id and secret
abbrev pub said_as : Scheme → List ℕ → List ℕ → Credentials
said_as Bearer name secret = User name secret
said_as ApiKey id secret = Key id secret

-- the name or id before the first colon and the secret behind it, of a text in UTF-8
abbrev pub pair_in : Scheme → List ℕ → Credentials
pair_in scheme text = if is_utf8 text && list_any (λ b. b == 58) text then said_as scheme (before_first (λ b. b == 58) text) (after_first (λ b. b == 58) text) else Malformed

-- what the bytes say that a token stands for, if it stands for any
abbrev pub pair_if : Scheme → Option (List ℕ) → Credentials
pair_if scheme None = Malformed
pair_if scheme (Some text) = pair_in scheme text

-- what a token says: it is padded base64 (RFC 4648, section 4) in its only spelling
abbrev pub said_by : Option (Scheme × List ℕ) → Credentials
said_by None = Malformed
said_by (Some (scheme, token)) = pair_if scheme (result_ok (decode_of standard token))

-- the credentials that a field says, if there is one
unfoldable pub credentials_of : Option (List ℕ) → Credentials
credentials_of None = Absent
credentials_of (Some value) = said_by (scheme_of value)

-- the token of a name or id and a secret: both with a colon between them, in base64
abbrev pub token_of : List ℕ → List ℕ → List ℕ
token_of name secret = encode_of standard (name ++ (codes ":" ++ secret))

-- up to the case of its scheme and the spaces behind it, the field is the only one that says this name or id and this secret
abbrev pub IsOnlySpelling : Option (List ℕ) → Credentials → Type 0
IsOnlySpelling None found = ⊤
IsOnlySpelling (Some value) (User name secret) = scheme_of value ≡ Some (Bearer, token_of name secret)
IsOnlySpelling (Some value) (Key id secret) = scheme_of value ≡ Some (ApiKey, token_of id secret)
IsOnlySpelling (Some value) Absent = ⊤
IsOnlySpelling (Some value) Malformed = ⊤
