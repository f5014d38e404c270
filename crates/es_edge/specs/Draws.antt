-- What the calls of a chance draw.
use Rattle.std.specs.Prelude.{◌≡◌, ℕ, ◌≤◌, Bool, true, false, List, ◌++◌, filter, Option, Some, None, ⊤}
use Rattle.std.specs.Option.{option_map}
use Rattle.std.specs.List.{list_any}
use Rattle.es_edge.specs.declared.chance.Draw.{Draw}
use Rattle.es_edge.specs.declared.chance.Draw.TheVariants as draw
use Rattle.es_edge.specs.Causes.{Rose}

-- a chance as contracts see it: the bytes that it drew so far, where it tells them, and its count of faults
pub record Lots : Type 0 where
  pub drawn : Option (List Draw)
  pub faults : ℕ

-- whether bytes were drawn
abbrev pub has_bytes : Draw → Bool
has_bytes draw.NotDrawn = false
has_bytes draw.Failed = false
has_bytes (draw.Bytes bytes) = true

-- whether the draw failed
abbrev pub has_failed : Draw → Bool
has_failed draw.NotDrawn = false
has_failed draw.Failed = true
has_failed (draw.Bytes bytes) = false

-- P of the bytes, if bytes were drawn
abbrev pub IfBytes : Draw → (List ℕ → Type 0) → Type 0
IfBytes draw.NotDrawn P = ⊤
IfBytes draw.Failed P = ⊤
IfBytes (draw.Bytes bytes) P = P bytes

-- a failure comes only where the count of faults rose, which nothing else moves
abbrev pub HasDrawCause : Bool → ℕ → ℕ → Type 0
HasDrawCause true old new = Rose old new
HasDrawCause false old new = new ≡ old

-- between the two the chance gave these answers
pub record Draws (old new : Lots) (answers : List Draw) : Type 0 where
  pub drawn : new.drawn ≡ option_map (λ (ds : List Draw). ds ++ filter has_bytes answers) old.drawn
  pub faults : old.faults ≤ new.faults
  pub cause : HasDrawCause (list_any has_failed answers) old.faults new.faults

-- the answer by the next member of a list: its bytes, and a failure where it has none
abbrev pub answer_by : Option Draw → Draw
answer_by None = draw.Failed
answer_by (Some draw.NotDrawn) = draw.Failed
answer_by (Some draw.Failed) = draw.Failed
answer_by (Some (draw.Bytes bytes)) = draw.Bytes bytes
