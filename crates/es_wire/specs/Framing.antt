-- What the fields of a head say of the body that follows, and of the connection.
use Rattle.std.specs.Prelude.{ℕ, ◌==◌, Bool, true, false, not, ◌&&◌, ◌||◌, nat_le, if◌then◌else◌, List, [], ◌∷◌, length, map, filter, codes, Option, Some, None, bytes_eq}
use Rattle.std.specs.List.{list_all, list_any, slice_split}
use Rattle.std.specs.Char.{is_ascii_digit}
use Rattle.std.specs.Str.{str_eq_ignore_ascii_case}
use Rattle.std.specs.Str.Parse.{digits_value}
use Rattle.httparse.specs.Grammar.{RequestHead, trim_ows}
use Rattle.httparse.specs.Spans.{name_and_value}
use Rattle.es_wire.specs.declared.request.Once.{Once}
use Rattle.es_wire.specs.declared.request.Once.TheVariants.{Absent, One, Twice}
use Rattle.es_wire.specs.declared.framing.Framing.{Framing}
use Rattle.es_wire.specs.declared.framing.Framing.TheVariants.{Body, Refused}

-- the names and values of a head, in order
abbrev pub pairs_of : RequestHead → List (List ℕ × List ℕ)
pairs_of h = map name_and_value h.fields

-- the values of the fields with this name, which compares without case
unfoldable pub values_of : List ℕ → List (List ℕ × List ℕ) → List (List ℕ)
values_of name pairs = map (λ (p : List ℕ × List ℕ). p.1) (filter (λ (p : List ℕ × List ℕ). str_eq_ignore_ascii_case p.0 name) pairs)

-- none, the one value, or several
abbrev pub once_of : List (List ℕ) → Once
once_of [] = Absent
once_of (v ∷ []) = One v
once_of (v ∷ w ∷ vs) = Twice

-- the value of the field with this name, where it stands once
abbrev pub field_of : List ℕ → List (List ℕ × List ℕ) → Once
field_of name pairs = once_of (values_of name pairs)

-- 1 to 18 decimal digits
abbrev pub is_decimal : List ℕ → Bool
is_decimal v = nat_le 1 (length v) && nat_le (length v) 18 && list_all is_ascii_digit v

-- the number that they write; none for other bytes
abbrev pub decimal_of : List ℕ → Option ℕ
decimal_of v = if is_decimal v then Some (digits_value 10 v) else None

-- the greatest length of a body, in bytes
abbrev pub body_limit : ℕ
body_limit = 1048576

-- the number of bytes that follow the head, by its content-length
abbrev pub length_framing : Once → Framing
length_framing Absent = Body 0
length_framing (One v) =
    if is_decimal v then (if nat_le (digits_value 10 v) body_limit then Body (digits_value 10 v) else Refused 413) else Refused 400
length_framing Twice = Refused 400

-- whether the field isn't there
abbrev pub is_absent : Once → Bool
is_absent Absent = true
is_absent (One v) = false
is_absent Twice = false

-- whether the value names a coding of the content
abbrev pub is_coding : List ℕ → Bool
is_coding v = not (bytes_eq v (codes "identity"))

-- the bytes of the body that follow a head, or the status of the first refusal
unfoldable pub framing_of : List (List ℕ × List ℕ) → Framing
framing_of pairs =
    if not (is_absent (field_of (codes "transfer-encoding") pairs)) then Refused 411
    else if list_any is_coding (values_of (codes "content-encoding") pairs) then Refused 415
    else length_framing (field_of (codes "content-length") pairs)

-- whether a comma list has the member close, which compares without case and without the white space around it
unfoldable pub has_close : List ℕ → Bool
has_close v = list_any (λ member. str_eq_ignore_ascii_case (trim_ows member) (codes "close")) (slice_split (λ b. b == 44) v)

-- whether the connection closes after the request: the version is 1.0, or some connection field says so
unfoldable pub is_last : RequestHead → Bool
is_last h = (h.minor == 0) || list_any has_close (values_of (codes "connection") (pairs_of h))
