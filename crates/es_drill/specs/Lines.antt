-- The lines of a schedule: what a line says, and the call that it starts.
use Rattle.std.specs.Prelude.{ℕ, ◌*◌, ◌-◌, ◌==◌, Bool, true, false, ◌&&◌, nat_le, List, [], ◌∷◌, ◌++◌, length, replicate, codes, bytes_eq, Option, Some, None, if◌then◌else◌}
use Rattle.std.specs.List.{list_all, list_any, before_first, after_first}
use Rattle.std.specs.Str.{is_utf8}
use Rattle.es_edge.specs.declared.chance.Draw.{Draw}
use Rattle.es_edge.specs.declared.chance.Draw.TheVariants as draw
use Rattle.es_wire.specs.declared.request.RawRequest.{RawRequest}
use Rattle.es_wire.specs.declared.request.Once.{Once}
use Rattle.es_wire.specs.declared.request.Once.TheVariants as once
use Rattle.es_request.specs.Requests.{draws}
use Rattle.es_request.specs.declared.call.Call.{Call}
use Rattle.es_route.specs.Reading.{read_request, call_of}

-- as many bytes has a line at the most, its line feed left out
abbrev pub line_limit : ℕ
line_limit = 1100000

-- the texts of a call's line: the method, the target, the header that says who asks, and the body
pub record Texts : Type 0 where
  pub method : List ℕ
  pub target : List ℕ
  pub authorization : Once
  pub body : List ℕ

-- what a line says of an actor, which has a number from 1 for `A` to 26 for `Z`: it starts a call, makes one step, or runs to the end of its call
pub data Line : Type 0 where
  calls : ℕ → Texts → Line
  steps : ℕ → Line
  runs : ℕ → Line

-- ---- words

-- what is there goes on
infixl 10 ◌then◌
abbrev pub ◌then◌ : {A B : Type 0} → Option A → (A → Option B) → Option B
(Some x) then f = f x
None then f = None

-- x, where the test holds
abbrev pub only_if : {A : Type 0} → Bool → A → Option A
only_if true x = Some x
only_if false x = None

abbrev pub is_space : ℕ → Bool
is_space b = b == 32

-- a capital letter
abbrev pub is_letter : ℕ → Bool
is_letter b = nat_le 65 b && nat_le b 90

-- one byte or more, each of which meets the test
abbrev pub are_some : (ℕ → Bool) → List ℕ → Bool
are_some test [] = false
are_some test (b ∷ bytes) = list_all test (b ∷ bytes)

-- what stands before the first space, and what stands behind it
pub record Cut : Type 0 where
  pub word : List ℕ
  pub rest : List ℕ

-- bytes with a space, cut at the first one
abbrev pub cut_of : List ℕ → Option Cut
cut_of bytes = only_if (list_any is_space bytes) (record { word = before_first is_space bytes; rest = after_first is_space bytes })

-- the first word, and what stands behind its space: nothing, where no space stands
abbrev pub first_word : List ℕ → Cut
first_word bytes = record { word = before_first is_space bytes; rest = after_first is_space bytes }

-- the number of the actor that is named by one letter
abbrev pub actor_of : List ℕ → Option ℕ
actor_of [] = None
actor_of (letter ∷ []) = only_if (is_letter letter) (letter - 64)
actor_of (letter ∷ (b ∷ bytes)) = None

-- ---- who asks

-- the value of the header that a word stands for, which names a scheme and has a text behind a colon: a space for the colon
abbrev pub field_under : List ℕ → List ℕ → Option (List ℕ)
field_under scheme word = only_if (bytes_eq (before_first (λ b. b == 58) word) scheme && list_any (λ b. b == 58) word) (scheme ++ codes " " ++ after_first (λ b. b == 58) word)

-- either, where the first isn't there
abbrev pub or_else : {A : Type 0} → Option A → Option A → Option A
or_else (Some x) other = Some x
or_else None other = other

-- the header of the two schemes
abbrev pub field_of : List ℕ → Option (List ℕ)
field_of word = or_else (field_under (codes "Bearer") word) (field_under (codes "ApiKey") word)

-- a single `-` stands for no header; a word that names no scheme stands for nothing
abbrev pub authorization_of : List ℕ → Option Once
authorization_of word = if bytes_eq word (codes "-") then Some once.Absent else (field_of word then λ field. Some (once.One field))

-- ---- lines

-- the line of a call, of what stands behind its first word
abbrev pub call_in : List ℕ → Option Line
call_in bytes =
    cut_of bytes then λ named.
    actor_of named.word then λ actor.
    cut_of named.rest then λ asked.
    only_if (are_some is_letter asked.word) asked.word then λ method.
    cut_of asked.rest then λ aimed.
    only_if (are_some (λ b. true) aimed.word) aimed.word then λ target.
    authorization_of (first_word aimed.rest).word then λ authorization.
    Some (calls actor (record { method = method; target = target; authorization = authorization; body = (first_word aimed.rest).rest }))

-- the line whose first word is this
abbrev pub line_with : List ℕ → List ℕ → Option Line
line_with word rest =
    if bytes_eq word (codes "call") then call_in rest
    else if bytes_eq word (codes "step") then (actor_of rest then λ actor. Some (steps actor))
    else if bytes_eq word (codes "run") then (actor_of rest then λ actor. Some (runs actor))
    else None

-- What a line says, its line feed left out; none of a bad one: one that is too long, no text, or of no form.
unfoldable pub line_of : List ℕ → Option Line
line_of bytes =
    only_if (nat_le (length bytes) line_limit && is_utf8 bytes) bytes then λ text.
    cut_of text then λ cut. line_with cut.word cut.rest

-- ---- calls

-- the request of the wire that has these texts
abbrev pub raw_of : Texts → RawRequest
raw_of t = record {
  method = t.method;
  target = t.target;
  authorization = t.authorization;
  run_as = once.Absent;
  seen = once.Absent;
  body = t.body;
  last = false;
}

-- sixteen zero bytes, where a request draws
abbrev pub drawn_if : Bool → Draw
drawn_if true = draw.Bytes (replicate 16 0)
drawn_if false = draw.NotDrawn

-- a line's moment: a second for each line up to it
abbrev pub moment_of : ℕ → ℕ
moment_of number = 1000 * number

-- the call that the line of this number starts
abbrev pub call_at : ℕ → Texts → Call
call_at number t = call_of (raw_of t) (moment_of number) (drawn_if (draws (read_request (raw_of t))))
