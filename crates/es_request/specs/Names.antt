-- Names of indices, and ids of documents.
use Rattle.std.specs.Prelude.{ℕ, ◌==◌, Bool, false, ◌&&◌, ◌||◌, nat_le, List, [], ◌∷◌, length}
use Rattle.std.specs.List.{list_all}
use Rattle.std.specs.Char.{is_ascii_lowercase, is_ascii_digit}

-- a letter or a digit
abbrev pub is_name_start : ℕ → Bool
is_name_start b = is_ascii_lowercase b || is_ascii_digit b

-- also a hyphen, a low line or a full stop
abbrev pub is_name_byte : ℕ → Bool
is_name_byte b = is_name_start b || (b == 45) || (b == 95) || (b == 46)

abbrev pub starts_name : List ℕ → Bool
starts_name [] = false
starts_name (b ∷ bytes) = is_name_start b

-- an index's name: 1 to 255 bytes of these, of which the first is a letter or a digit
unfoldable pub is_index_name : List ℕ → Bool
is_index_name name = starts_name name && nat_le (length name) 255 && list_all is_name_byte name

-- a document's id: a text of 1 to 512 bytes
unfoldable pub is_document_id : List ℕ → Bool
is_document_id id = nat_le 1 (length id) && nat_le (length id) 512
