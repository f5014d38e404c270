-- A link as contracts see it: the two sides of one object.
use Rattle.std.specs.Prelude.{◌≡◌, [], true, false, IfSome}
use Rattle.es_edge.specs.Moves.{Input, Output}

-- a side that is closed has all that it had
abbrev pub closed_input : Input → Input
closed_input input = record input { is_open = false }

abbrev pub closed_output : Output → Output
closed_output output = record output { is_open = false }

-- an open link of which nothing was used yet: no fault, no end, and nothing given or taken where it tells that
pub record IsFresh (input : Input) (output : Output) : Type 0 where
  pub is_open : input.is_open ≡ true
  pub read_faults : input.faults ≡ 0
  pub ends : input.ends ≡ 0
  pub write_faults : output.faults ≡ 0
  pub given : IfSome input.given (λ given. given ≡ [])
  pub written : IfSome output.written (λ written. written ≡ [])
