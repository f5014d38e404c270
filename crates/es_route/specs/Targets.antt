-- How a target is cut and decoded.
use Rattle.std.specs.Prelude.{ℕ, ◌==◌, Bool, ◌&&◌, nat_eq, nat_le, List, drop, map, codes, Result, Ok, Err, if◌then◌else◌}
use Rattle.std.specs.List.{list_all, starts_with, before_first, after_first, slice_split}
use Rattle.std.specs.Str.{is_utf8}
use Rattle.percent_encoding.specs.Percent.{percent_decode}
use Rattle.es_response.specs.Reply.{ReplyValue}
use Rattle.es_reply.specs.Bodies.{bad_path_reply}

-- a path, and the query string behind its question mark
pub record Target : Type 0 where
  pub path : List ℕ
  pub query : List ℕ

-- it begins with a slash and is ASCII
abbrev pub is_target : List ℕ → Bool
is_target bytes = starts_with nat_eq bytes (codes "/") && list_all (λ b. nat_le b 127) bytes

-- the target that bytes are, cut at the first question mark
abbrev pub target_of : List ℕ → Result Target ReplyValue
target_of bytes =
    if is_target bytes then Ok (record { path = before_first (λ b. b == 63) bytes; query = after_first (λ b. b == 63) bytes }) else Err bad_path_reply

-- the segments of a path: what stands between its slashes, and behind the last
abbrev pub segments_of : List ℕ → List (List ℕ)
segments_of path = slice_split (λ b. b == 47) (drop 1 path)

-- parameters as they are meant: percent-decoded (RFC 3986, section 2.1), where a `%` without two hexadecimal digits stands for itself
abbrev pub decoded : List (List ℕ) → Result (List (List ℕ)) ReplyValue
decoded parameters = if list_all is_utf8 (map percent_decode parameters) then Ok (map percent_decode parameters) else Err bad_path_reply
