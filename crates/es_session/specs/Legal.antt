-- The calls of requests, and their places in a journal.
use Rattle.std.specs.Prelude.{◌≡◌, ℕ, ◌+◌, ◌<◌, ◌≤◌, Bool, true, false, not, List, [], ◌∷◌, length, map, filter, min, Option, Some, ⊤, IsTrue, IfSome, if◌then◌else◌}
use Rattle.std.specs.List.{flat_map}
use Rattle.es_edge.specs.declared.chance.Draw.{Draw}
use Rattle.es_edge.specs.declared.chance.Draw.TheVariants.{NotDrawn, Failed, Bytes}
use Rattle.es_journal.specs.Journal.{Told, told_at, IsLegalCall}
use Rattle.es_response.specs.Reply.{ReplyValue, response}
use Rattle.es_wire.specs.declared.request.RawRequest.{RawRequest}
use Rattle.es_wire.specs.declared.receipt.Receipt.{Receipt}
use Rattle.es_wire.specs.Requests.{Message, raw_of}
use Rattle.es_session.specs.Node.{Node, Given, Placed}

-- what a call with this receipt was given
abbrev pub given_of : Receipt → Given
given_of r = record { moment = r.moment; draw = r.draw }

-- whether something was drawn
abbrev pub is_drawn : Draw → Bool
is_drawn NotDrawn = false
is_drawn Failed = true
is_drawn (Bytes bytes) = true

-- the call was answered at its place in the journal, and drew exactly where it draws
pub record IsLegal (N : Node) (J : List N.Entry) (call : Given → N.Call) (r : Receipt) : Type 0 where
  pub legal : IsLegalCall N.answer J (call (given_of r)) r.place r.changed
  pub drawn : is_drawn r.draw ≡ N.draws (call (given_of r))

-- each call has a receipt, and is legal
abbrev pub AllLegal : (N : Node) → (J : List N.Entry) → List (Given → N.Call) → List Receipt → Type 0
AllLegal N J [] [] = ⊤
AllLegal N J (call ∷ calls) (r ∷ rs) = IsLegal N J call r × AllLegal N J calls rs
AllLegal N J [] (r ∷ rs) = ⊥
AllLegal N J (call ∷ calls) [] = ⊥

-- each request has the receipts of its calls, which are legal
abbrev pub AllAnswered : (N : Node) → ℕ → List N.Entry → List Message → List (List Receipt) → Type 0
AllAnswered N caller J [] [] = ⊤
AllAnswered N caller J (m ∷ ms) (rs ∷ groups) = AllLegal N J (N.calls_of caller (raw_of m)) rs × AllAnswered N caller J ms groups
AllAnswered N caller J [] (rs ∷ groups) = ⊥
AllAnswered N caller J (m ∷ ms) [] = ⊥

-- what a call with its receipt was told
abbrev pub placed_at : (N : Node) → List N.Entry → (Given → N.Call) → Receipt → Placed
placed_at N J call r = record { reply = (told_at N.answer J (call (given_of r)) r.place r.changed).reply; place = r.place }

abbrev pub all_placed : (N : Node) → List N.Entry → List (Given → N.Call) → List Receipt → List Placed
all_placed N J (call ∷ calls) (r ∷ rs) = placed_at N J call r ∷ all_placed N J calls rs
all_placed N J calls rs = []

-- the place of the last of these
abbrev pub last_place : List Receipt → ℕ
last_place [] = 0
last_place (r ∷ []) = r.place
last_place (r ∷ (q ∷ rs)) = last_place (q ∷ rs)

-- the response to a caller's request whose calls have these receipts
abbrev pub response_at : (N : Node) → ℕ → List N.Entry → RawRequest → List Receipt → List ℕ
response_at N caller J raw rs = response (N.reply_of raw (all_placed N J (N.calls_of caller raw) rs)) (Some (last_place rs)) raw.last

-- the responses, one after another
abbrev pub responses : (N : Node) → ℕ → List N.Entry → List Message → List (List Receipt) → List (List ℕ)
responses N caller J (m ∷ ms) (rs ∷ groups) = response_at N caller J (raw_of m) rs ∷ responses N caller J ms groups
responses N caller J ms groups = []

-- the lists, one behind another
abbrev pub joined : {A : Type 0} → List (List A) → List A
joined lists = flat_map (λ list. list) lists

-- from a place to another, places don't fall, and the place of a change is above those before it
abbrev pub Ascends : ℕ → ℕ → List Receipt → Type 0
Ascends from to [] = from ≤ to
Ascends from to (r ∷ rs) = (from ≤ r.place) × (IsTrue r.changed → from < r.place) × Ascends r.place to rs

-- the greatest moment, in milliseconds since 1970
abbrev pub moment_limit : ℕ
moment_limit = 4000000000000000

-- the moment is cut at the greatest, and is the clock's where that tells it
abbrev pub HasMoment : Option ℕ → Receipt → Type 0
HasMoment clock r = (r.moment ≤ moment_limit) × IfSome clock (λ told. r.moment ≡ min told moment_limit)

-- each moment is such
abbrev pub AllHaveMoments : Option ℕ → List Receipt → Type 0
AllHaveMoments clock [] = ⊤
AllHaveMoments clock (r ∷ rs) = HasMoment clock r × AllHaveMoments clock rs

-- what was drawn for the calls, in their order
abbrev pub drawn_for : List Receipt → List Draw
drawn_for rs = filter is_drawn (map (λ r. r.draw) rs)

-- 1 for a change, and else 0
abbrev pub change_of : Receipt → ℕ
change_of r = if r.changed then 1 else 0

-- how many of the calls were accepted changes
abbrev pub changes : List Receipt → ℕ
changes [] = 0
changes (r ∷ rs) = change_of r + changes rs

-- each place is that of the receipt before it, and one more where the call was an accepted change
abbrev pub HasCountedPlaces : ℕ → List Receipt → Type 0
HasCountedPlaces from [] = ⊤
HasCountedPlaces from (r ∷ rs) = (r.place ≡ from + change_of r) × HasCountedPlaces r.place rs
