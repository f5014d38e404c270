-- What a reader finds, or why it stops: for clauses.
use Rattle.std.specs.Prelude.{◌≡◌, Result, Ok, Err}
use Rattle.es_response.specs.Reply.{ReplyValue}
use Rattle.es_route.specs.declared.stop.Stop.{Stop}
use Rattle.es_route.specs.declared.stop.Stop.TheVariants.{Refused, NoMemory}

-- it stops at this refusal, unless memory was refused
abbrev pub StopsAt : {A : Type 0} → Stop → Result A ReplyValue → Type 0
StopsAt (Refused reply) answer = answer ≡ Err reply
StopsAt NoMemory answer = Unit {0}

-- what was found is the answer, unless memory was refused
abbrev pub Gives : {A : Type 0} → Result A Stop → Result A ReplyValue → Type 0
Gives (Ok x) answer = answer ≡ Ok x
Gives (Err stop) answer = StopsAt stop answer

-- the same, of what was found as seen by `view`
abbrev pub GivesBy : {A B : Type 0} → (A → B) → Result A Stop → Result B ReplyValue → Type 0
GivesBy view (Ok x) answer = answer ≡ Ok (view x)
GivesBy view (Err stop) answer = StopsAt stop answer
