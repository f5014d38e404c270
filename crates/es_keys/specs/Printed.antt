-- The text of a key, as lists of keys show it: compact JSON (RFC 8259), with members in the order of their names' bytes.
use Rattle.std.specs.Prelude.{ℕ, Bool, true, false, List, [], ◌++◌, map, codes, decimal, Option, Some, None}
use Rattle.json.specs.Print.{quoted}
use Rattle.es_tree.specs.Text.{text_of, with_commas}
use Rattle.es_role.specs.Printed.{descriptor_tree}
use Rattle.es_keys.specs.declared.kinds.NamedPart.{NamedPart}
use Rattle.es_keys.specs.declared.kinds.KeyRecord.{KeyRecord}

-- the member that tells when a key expires, where it does
abbrev pub expiration_member : Option ℕ → List ℕ
expiration_member None = []
expiration_member (Some moment) = codes ",\"expiration\":" ++ decimal moment

unfoldable pub truth_text : Bool → List ℕ
truth_text true = codes "true"
truth_text false = codes "false"

-- a descriptor as a member, by its name
unfoldable pub part_text : NamedPart → List ℕ
part_text part = quoted part.name ++ codes ":" ++ text_of (descriptor_tree part.part)

-- when a key was made, and when it expires
unfoldable pub times_text : KeyRecord → List ℕ
times_text kept = codes "{\"creation\":" ++ decimal kept.made ++ expiration_member kept.expires

-- a key's name, the descriptors that it was given, in their order, and its owner's name
unfoldable pub rest_text : KeyRecord → List ℕ
rest_text kept =
    codes ",\"name\":" ++ quoted kept.name
    ++ codes ",\"role_descriptors\":{" ++ with_commas (map part_text kept.assigned)
    ++ codes "},\"username\":" ++ quoted kept.owner.username ++ codes "}"

-- a key
unfoldable pub key_text : KeyRecord → List ℕ
key_text kept =
    times_text kept
    ++ codes ",\"id\":" ++ quoted kept.id
    ++ codes ",\"invalidated\":" ++ truth_text kept.invalidated
    ++ codes ",\"metadata\":" ++ text_of kept.metadata
    ++ rest_text kept
