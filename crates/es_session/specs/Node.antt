-- A node as a session sees it: what it answers after a journal.
use Rattle.std.specs.Prelude.{ℕ, List, Bool}
use Rattle.es_edge.specs.declared.chance.Draw.{Draw}
use Rattle.es_journal.specs.Journal.{Told}
use Rattle.es_response.specs.Reply.{ReplyValue}
use Rattle.es_wire.specs.declared.request.RawRequest.{RawRequest}

-- what a call is given from outside: its moment, and what was drawn for it
pub record Given : Type 0 where
  pub moment : ℕ
  pub draw : Draw

-- what a call was told, and the place at which
pub record Placed : Type 0 where
  pub reply : ReplyValue
  pub place : ℕ

-- the entries of a journal, the calls, and what is told after a journal
pub record Node : Type 1 where
  pub Entry : Type 0
  pub Call : Type 0
  pub answer : List Entry → Call → Told ReplyValue Entry
  -- the calls for which a caller's request stands, in their order, each by what it is given
  pub calls_of : ℕ → RawRequest → List (Given → Call)
  -- whether the call draws
  pub draws : Call → Bool
  -- the reply to a request, by what its calls were told
  pub reply_of : RawRequest → List Placed → ReplyValue
