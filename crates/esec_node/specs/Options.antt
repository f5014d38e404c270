-- The options of a command line: each one word and its value, in any order, each at most once.
use Rattle.std.specs.Prelude.{ℕ, ◌&&◌, ◌==◌, nat_le, if◌then◌else◌, List, [], ◌∷◌, codes, bytes_eq, Option, Some, None, option_map}
use Rattle.std.specs.Option.{unwrap_or}
use Rattle.es_wire.specs.Framing.{decimal_of}
use Rattle.es_cred.specs.Names.{is_secret}
use Rattle.es_vault.specs.declared.vault.Limits.{Limits}
use Rattle.esec_node.specs.declared.given.Options as declared

-- what the options say, each where it was given
pub record Options : Type 0 where
  pub admin : Option (List ℕ)
  pub block : Option ℕ
  pub journal : Option ℕ
  pub role_cache : Option ℕ
  pub bit_cache : Option ℕ

-- the same of options that lend the secret
abbrev pub options_as : declared.Options → Options
options_as o = record { admin = option_map (λ secret. secret.now) o.admin; block = o.block; journal = o.journal; role_cache = o.role_cache; bit_cache = o.bit_cache }

-- a number in its range, which begins above 0: decimal, without sign or leading zero
abbrev pub in_range : ℕ → ℕ → Option ℕ → Option ℕ
in_range low high None = None
in_range low high (Some n) = if nat_le low n && nat_le n high then Some n else None

abbrev pub number_in : ℕ → ℕ → List ℕ → Option ℕ
number_in low high [] = None
number_in low high (first ∷ digits) = if first == 48 then None else in_range low high (decimal_of (first ∷ digits))

-- an option that wasn't given before, with the value that its text has
abbrev pub once : {A : Type 0} → Option A → Option A → Option A
once None found = found
once (Some given) found = None

-- the options with this one more
abbrev pub with_block : Options → Option ℕ → Option Options
with_block o None = None
with_block o (Some n) = Some (record o { block = Some n })

abbrev pub with_journal : Options → Option ℕ → Option Options
with_journal o None = None
with_journal o (Some n) = Some (record o { journal = Some n })

abbrev pub with_role_cache : Options → Option ℕ → Option Options
with_role_cache o None = None
with_role_cache o (Some n) = Some (record o { role_cache = Some n })

abbrev pub with_bit_cache : Options → Option ℕ → Option Options
with_bit_cache o None = None
with_bit_cache o (Some n) = Some (record o { bit_cache = Some n })

abbrev pub with_admin : Options → Option (List ℕ) → Option Options
with_admin o None = None
with_admin o (Some secret) = Some (record o { admin = Some secret })

abbrev pub secret_in : List ℕ → Option (List ℕ)
secret_in text = if is_secret text then Some text else None

abbrev pub with_option : Options → List ℕ → List ℕ → Option Options
with_option o name value =
    if bytes_eq name (codes "--admin") then with_admin o (once o.admin (secret_in value))
    else if bytes_eq name (codes "--block") then with_block o (once o.block (number_in 1 1024 value))
    else if bytes_eq name (codes "--journal") then with_journal o (once o.journal (number_in 1 200000 value))
    else if bytes_eq name (codes "--role-cache") then with_role_cache o (once o.role_cache (number_in 1 512 value))
    else if bytes_eq name (codes "--bit-cache") then with_bit_cache o (once o.bit_cache (number_in 1 4096 value))
    else None

abbrev pub next_option : Option Options → List ℕ → List ℕ → Option Options
next_option None name value = None
next_option (Some o) name value = with_option o name value

-- the options with those that these words give more
abbrev pub options_from : Option Options → List (List ℕ) → Option Options
options_from None words = None
options_from (Some o) [] = Some o
options_from (Some o) (name ∷ []) = None
options_from (Some o) (name ∷ (value ∷ words)) = options_from (with_option o name value) words

abbrev pub no_options : Options
no_options = record { admin = None; block = None; journal = None; role_cache = None; bit_cache = None }

-- what a node may hold: 100,000 entries and 512 composed roles where nothing else is said
abbrev pub limits_of : Options → Limits
limits_of o = record { journal = unwrap_or o.journal 100000; role_cache = unwrap_or o.role_cache 512 }
