-- What stops a call.
use Rattle.std.specs.Prelude.{◌≡◌, Option, Some, None, Result, Ok, Err}
use Rattle.es_response.specs.Reply.{ReplyValue}
use Rattle.es_vault.specs.declared.stop.Stop.{Stop}
use Rattle.es_vault.specs.declared.stop.Stop.TheVariants.{Reply, NoMemory}

-- this is the refusal, unless memory was refused
abbrev pub IsStop : Stop → Option ReplyValue → Type 0
IsStop (Reply reply) refusal = refusal ≡ Some reply
IsStop NoMemory refusal = Unit {0}

-- nothing is refused, or this is the refusal, unless memory was refused
abbrev pub Stops : {A : Type 0} → Result A Stop → Option ReplyValue → Type 0
Stops (Ok x) refusal = refusal ≡ None
Stops (Err stop) refusal = IsStop stop refusal
