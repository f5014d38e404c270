-- The node as a connection sees it: each request is one call.
use Rattle.std.specs.Prelude.{ℕ, List, [], ◌∷◌}
use Rattle.es_response.specs.Reply.{ReplyValue}
use Rattle.es_reply.specs.Bodies.{not_built_reply}
use Rattle.es_session.specs.Node.{Node, Given, Placed}
use Rattle.es_wire.specs.declared.request.RawRequest.{RawRequest}
use Rattle.es_request.specs.Requests.{draws}
use Rattle.es_route.specs.Reading as reading
use Rattle.es_vault.specs.World.{World, Entry}
use Rattle.es_vault.specs.Answer.{Asked}
use Rattle.es_job.specs.Answer.{answer}

-- the call that a caller's request is, with what it is given
abbrev pub call_of : ℕ → RawRequest → Given → Asked
call_of caller raw given = record { caller = caller; call = reading.call_of raw given.moment given.draw }

-- the reply to a request of one call
abbrev pub only_reply : List Placed → ReplyValue
only_reply [] = not_built_reply
only_reply (placed ∷ others) = placed.reply

-- The node with this opening world, whose journal may have so many entries.
abbrev pub node : ℕ → World → Node
node limit w = record {
  Entry = Entry;
  Call = Asked;
  answer = answer limit w;
  calls_of = λ caller raw. call_of caller raw ∷ [];
  draws = λ asked. draws asked.call.request;
  reply_of = λ raw placed. only_reply placed;
}
