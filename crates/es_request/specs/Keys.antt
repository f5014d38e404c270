-- The bodies of requests on keys.
use Rattle.std.specs.Prelude.{ℕ, ◌*◌, ◌==◌, Bool, false, ◌&&◌, ◌||◌, not, List, [], ◌∷◌, map as list_map, length, take, drop, codes, bytes_eq, nat_le, Option, Some, None, is_some, Result, if◌then◌else◌}
use Rattle.std.specs.List.{prefix_len}
use Rattle.std.specs.Option.{unwrap_or}
use Rattle.std.specs.Char.{is_ascii_digit}
use Rattle.std.specs.Str.Parse.{digits_value}
use Rattle.es_tree.specs.declared.tree.Tree.{Tree}
use Rattle.es_tree.specs.declared.tree.Named.{Named}
use Rattle.es_grammar.specs.Reading.{or_no_members, if_holds, ◌>>=◌ as ◌then◌}
use Rattle.es_grammar.specs.Grammar.{◌>>=◌, object, member, no_more, required, means, means_where}
use Rattle.es_grammar.specs.Members.{map_form}
use Rattle.es_grammar.specs.Values.{has_some, text_form, truth_form, object_form, list_form, spelled_form}
use Rattle.es_role.specs.declared.kinds.Descriptor.{Descriptor}
use Rattle.es_compose.specs.Checked.{checked_form}
use Rattle.es_keys.specs.declared.kinds.NamedPart.{NamedPart}
use Rattle.es_keys.specs.declared.kinds.NewKey.{NewKey}
use Rattle.es_response.specs.Reply.{ReplyValue}
use Rattle.es_request.specs.declared.keys.Asked.{Asked}
use Rattle.es_request.specs.Bodies.{body_of}

-- whether it has 1 to 255 bytes, as names of keys and of the descriptors inside them have
abbrev pub is_key_name : List ℕ → Bool
is_key_name text = nat_le 1 (length text) && nat_le (length text) 255

abbrev pub name_in : List ℕ → Option (List ℕ)
name_in text = if is_key_name text then Some text else None

-- how many milliseconds a unit has: `ms`, `s`, `m`, `h`, `d`
abbrev pub unit_of : List ℕ → Option ℕ
unit_of unit =
    if bytes_eq unit (codes "ms") then Some 1
    else if bytes_eq unit (codes "s") then Some 1000
    else if bytes_eq unit (codes "m") then Some 60000
    else if bytes_eq unit (codes "h") then Some 3600000
    else if bytes_eq unit (codes "d") then Some 86400000
    else None

-- 1 to 15 digits, of which the first isn't `0`
abbrev pub first_counts : List ℕ → Bool
first_counts [] = false
first_counts (b ∷ digits) = not (b == 48)

abbrev pub is_number : List ℕ → Bool
is_number digits = first_counts digits && nat_le (length digits) 15

-- the longest duration, in milliseconds
abbrev pub longest : ℕ
longest = 1000000000000000

-- so many milliseconds, if they are no more than the longest duration
abbrev pub if_not_longer : ℕ → Option ℕ
if_not_longer duration = if nat_le duration longest then Some duration else None

-- a duration of so many units
abbrev pub duration_of : List ℕ → Option ℕ → Option ℕ
duration_of digits None = None
duration_of digits (Some unit) = if is_number digits then if_not_longer (digits_value 10 digits * unit) else None

-- how many digits stand in front
abbrev pub digits_in : List ℕ → ℕ
digits_in text = prefix_len is_ascii_digit text

-- the milliseconds that a text says: digits, and behind them a unit
unfoldable pub duration_in : List ℕ → Option ℕ
duration_in text = duration_of (take (digits_in text) text) (unit_of (drop (digits_in text) text))

-- descriptors with their names, in the byte order of these
abbrev pub named_part : Named Descriptor → NamedPart
named_part m = record { name = m.name; part = m.value }

abbrev pub parts_in : Option (List (Named Descriptor)) → List NamedPart
parts_in None = []
parts_in (Some ms) = list_map named_part ms

-- what is asked for who wants a key
unfoldable pub new_key_form : Tree → Result NewKey (List ℕ)
new_key_form = object (do
  expiration ← member (codes "expiration") (spelled_form duration_in)
  metadata ← member (codes "metadata") object_form
  name ← member (codes "name") (spelled_form name_in)
  descriptors ← member (codes "role_descriptors") (map_form is_key_name checked_form)
  end ← no_more
  called ← required name
  means (record { name = called; expiration = expiration; assigned = parts_in descriptors; metadata = or_no_members metadata }))

abbrev pub new_key_of : List ℕ → Result NewKey ReplyValue
new_key_of = body_of new_key_form

-- a list of at least one text
abbrev pub some_texts_form : Tree → Result (List (List ℕ)) (List ℕ)
some_texts_form t = list_form text_form t then λ ids. if_holds (has_some ids) ids

-- whether ids are named, or only the caller's own keys are meant
abbrev pub is_bounded : Asked → Bool
is_bounded asked = is_some asked.ids || asked.owner

-- which keys are to be invalidated: those of these ids, or all, and of these those of the acting user alone where `owner` says so; an absent `owner` says no
unfoldable pub invalidate_form : Tree → Result Asked (List ℕ)
invalidate_form = object (do
  ids ← member (codes "ids") some_texts_form
  owner ← member (codes "owner") truth_form
  end ← no_more
  means_where is_bounded (record { ids = ids; owner = unwrap_or owner false }))

abbrev pub invalidate_of : List ℕ → Result Asked ReplyValue
invalidate_of = body_of invalidate_form
