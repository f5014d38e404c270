-- Names of users and of roles, and secrets.
use Rattle.std.specs.Prelude.{ℕ, List, [], ◌∷◌, length, codes, Bool, ◌==◌, ◌&&◌, not, nat_eq, nat_le, bytes_eq, if◌then◌else◌}
use Rattle.std.specs.List.{list_all, starts_with, ends_with}
use Rattle.es_tree.specs.Rising.{is_before}

-- at least as many bytes as the one number, and at most as many as the other
abbrev pub has_length : ℕ → ℕ → List ℕ → Bool
has_length least greatest text = nat_le least (length text) && nat_le (length text) greatest

-- a character from space to `~`, but neither a colon nor a comma
abbrev pub is_name_character : ℕ → Bool
is_name_character c = (nat_le 32 c && nat_le c 126) && (not (c == 58) && not (c == 44))

-- a name of a user or of a role: 1 to 255 such characters, with `_` not at the front and a space at neither end
unfoldable pub is_name : List ℕ → Bool
is_name text = has_length 1 255 text && (list_all is_name_character text && (not (starts_with nat_eq text (codes "_")) && (not (starts_with nat_eq text (codes " ")) && not (ends_with nat_eq text (codes " ")))))

-- the user of a new node, and its role; neither is put or deleted
abbrev pub user_name : List ℕ
user_name = codes "elastic"

abbrev pub role_name : List ℕ
role_name = codes "superuser"

-- a character from `!` to `~`
abbrev pub is_secret_character : ℕ → Bool
is_secret_character c = nat_le 33 c && nat_le c 126

-- a secret: 1 to 128 such characters
unfoldable pub is_secret : List ℕ → Bool
is_secret text = has_length 1 128 text && list_all is_secret_character text

-- one name more at its place among names in byte order, unless it is there
abbrev pub with_name : List ℕ → List (List ℕ) → List (List ℕ)
with_name name [] = name ∷ []
with_name name (x ∷ xs) = if bytes_eq name x then x ∷ xs else (if is_before name x then name ∷ x ∷ xs else x ∷ with_name name xs)

-- the names in byte order, each once
abbrev pub in_order : List (List ℕ) → List (List ℕ)
in_order [] = []
in_order (x ∷ xs) = with_name x (in_order xs)
