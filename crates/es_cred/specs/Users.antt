-- Users, as trees are read.
use Rattle.std.specs.Prelude.{ℕ, List, Option, Some, None, Result, codes, if◌then◌else◌}
use Rattle.std.specs.Option.{option_flatten}
use Rattle.es_tree.specs.declared.tree.Tree.{Tree}
use Rattle.es_grammar.specs.Reading.{or_no_members}
use Rattle.es_grammar.specs.Grammar.{◌>>=◌, object, member, no_more, required, means}
use Rattle.es_grammar.specs.Values.{text_form, spelled_form, nullable_form, object_form, list_form}
use Rattle.es_cred.specs.declared.users.UserRecord.{UserRecord}
use Rattle.es_cred.specs.Digest.{digest_of}
use Rattle.es_cred.specs.Names.{is_name, is_secret, in_order}

-- the name that a text is
abbrev pub name_in : List ℕ → Option (List ℕ)
name_in text = if is_name text then Some text else None

-- the secret that a text is
abbrev pub secret_in : List ℕ → Option (List ℕ)
secret_in text = if is_secret text then Some text else None

-- what is kept of the user of this name
abbrev pub user_of : List ℕ → Option (Option (List ℕ)) → Option (Option (List ℕ)) → Option Tree → List (List ℕ) → List ℕ → UserRecord
user_of name full_name email metadata roles secret = record {
  person = record { username = name; full_name = option_flatten full_name; email = option_flatten email; roles = in_order roles; metadata = or_no_members metadata };
  digest = digest_of name secret;
}

-- a user of this name
unfoldable pub user_form : List ℕ → Tree → Result UserRecord (List ℕ)
user_form name = object (do
  email ← member (codes "email") (nullable_form text_form)
  full_name ← member (codes "full_name") (nullable_form text_form)
  metadata ← member (codes "metadata") object_form
  roles ← member (codes "roles") (list_form (spelled_form name_in))
  secret ← member (codes "secret") (spelled_form secret_in)
  end ← no_more
  the_roles ← required roles
  the_secret ← required secret
  means (user_of name full_name email metadata the_roles the_secret))
