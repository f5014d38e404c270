-- How the bytes of a connection are cut into requests.
use Rattle.std.specs.Prelude.{◌≡◌, ℕ, ◌≤◌, ◌⊎◌, Bool, false, List, [], ◌∷◌, ◌++◌, length, take, All, codes}
use Rattle.std.specs.List.{flat_map}
use Rattle.httparse.specs.Grammar.{RequestHead, IsRequestHead, print_request, HasNoRequest, NeverHasRequest, MayBecomeRequest}
use Rattle.httparse.specs.Spans.{RequestOverflows, RequestExceeds}
use Rattle.es_wire.specs.declared.request.RawRequest.{RawRequest}
use Rattle.es_wire.specs.declared.framing.Framing.TheVariants.{Body, Refused}
use Rattle.es_wire.specs.Framing.{pairs_of, field_of, framing_of, is_last}

-- as many bytes are read as a head
unfoldable pub head_limit : ℕ
head_limit = 16384

-- as many fields has a head at the most
abbrev pub field_limit : ℕ
field_limit = 100

-- a request of the wire: a head of the grammar, and its body
pub record Message : Type 0 where
  pub head : RequestHead
  pub body : List ℕ

-- its bytes
abbrev pub print_message : Message → List ℕ
print_message m = print_request m.head ++ m.body

-- a head of the grammar that is short and has few fields
pub record IsShortHead (h : RequestHead) : Type 0 where
  pub head : IsRequestHead h
  pub short : length (print_request h) ≤ head_limit
  pub few : length h.fields ≤ field_limit

-- the head is short, has few fields, and announces the body
pub record IsMessage (m : Message) : Type 0 where
  pub head : IsShortHead m.head
  pub framed : framing_of (pairs_of m.head) ≡ Body (length m.body)

-- bytes is that request and then rest
abbrev pub ReadsMessage : List ℕ → Message → List ℕ → Type 0
ReadsMessage bytes m rest = IsMessage m × (bytes ≡ print_message m ++ rest)

-- no prefix of bytes is a whole request
abbrev pub HasNoMessage : List ℕ → Type 0
HasNoMessage bytes = (m : Message) (rest : List ℕ) → ¬ (ReadsMessage bytes m rest)

-- some bytes can follow that make bytes a whole request, or, where no whole head stands yet, a head; a target that is still being read may be no text
abbrev pub MayBecomeMessage : List ℕ → Type 0
MayBecomeMessage bytes =
    ((more : List ℕ) × (m : Message) × ReadsMessage (bytes ++ more) m []) ⊎ (HasNoRequest bytes × MayBecomeRequest bytes)

-- no request before the last of them asks for the close, and that one does so exactly where closed is true
abbrev pub ClosesAtEnd : Bool → List Message → Type 0
ClosesAtEnd closed [] = closed ≡ false
ClosesAtEnd closed (m ∷ []) = is_last m.head ≡ closed
ClosesAtEnd closed (m ∷ (n ∷ ms)) = (is_last m.head ≡ false) × ClosesAtEnd closed (n ∷ ms)

-- the bytes begin with these requests, and then rest
pub record Begins (bytes : List ℕ) (messages : List Message) (rest : List ℕ) (closed : Bool) : Type 0 where
  pub whole : bytes ≡ flat_map print_message messages ++ rest
  pub each : All IsMessage messages
  pub closes : ClosesAtEnd closed messages

-- bytes begin as no request that is taken can, with the status of the refusal
pub data Refuses (bytes : List ℕ) : ℕ → Type 0 where
  -- no continuation of what is read as a head begins with a head
  never : NeverHasRequest (take head_limit bytes) → Refuses bytes 400
  -- whatever follows, a head at their front has too many fields
  many : RequestExceeds field_limit (take head_limit bytes) → RequestOverflows field_limit (take head_limit bytes) → Refuses bytes 431
  -- they hold no head as far as one is read
  long : head_limit ≤ length bytes → HasNoRequest (take head_limit bytes) → Refuses bytes 431
  -- their head announces what isn't taken
  framed :
      {status : ℕ} (h : RequestHead) (rest : List ℕ) → IsShortHead h → bytes ≡ print_request h ++ rest
      → framing_of (pairs_of h) ≡ Refused status → Refuses bytes status

-- the request as it is handed on
abbrev pub raw_of : Message → RawRequest
raw_of m = record {
  method = m.head.method;
  target = m.head.target;
  authorization = field_of (codes "authorization") (pairs_of m.head);
  run_as = field_of (codes "es-security-runas-user") (pairs_of m.head);
  seen = field_of (codes "esec-seen") (pairs_of m.head);
  body = m.body;
  last = is_last m.head;
}
