-- How the bytes that wait grow by reads.
use Rattle.std.specs.Prelude.{◌≡◌, ℕ, ◌<◌, ◌≤◌, List, ◌++◌, length}
use Rattle.es_edge.specs.Moves.{Input, Gives, HasEnded}
use Rattle.es_edge.specs.Causes.{Rose}
use Rattle.es_wire.specs.declared.conn.Filled.{Filled}
use Rattle.es_wire.specs.declared.conn.Filled.TheVariants.{Enough, End, Failed, NoMemory}

-- the source gave the bytes by which what waits grew
pub record Grown (before now : List ℕ) (old new : Input) : Type 0 where
  pub read : List ℕ
  pub given : Gives old new read
  pub now_is : now ≡ before ++ read

-- neither a fault nor an end was counted
abbrev pub IsQuiet : Input → Input → Type 0
IsQuiet old new = (new.faults ≡ old.faults) × (new.ends ≡ old.ends)

-- why the reads ended: enough bytes wait, or fewer with the cause, or memory was refused; no fault and no end was passed over
abbrev pub FillCause : ℕ → List ℕ → Input → Input → Filled → Type 0
FillCause wanted now old new Enough = (wanted ≤ length now) × IsQuiet old new
FillCause wanted now old new End = (length now < wanted) × HasEnded old new × (new.faults ≡ old.faults)
FillCause wanted now old new Failed = (length now < wanted) × Rose old.faults new.faults × (new.ends ≡ old.ends)
FillCause wanted now old new NoMemory = IsQuiet old new

-- what reads up to the wanted length did
abbrev pub Fills : ℕ → List ℕ → List ℕ → Input → Input → Filled → Type 0
Fills wanted before now old new Enough = Grown before now old new × FillCause wanted now old new Enough
Fills wanted before now old new End = Grown before now old new × FillCause wanted now old new End
Fills wanted before now old new Failed = Grown before now old new × FillCause wanted now old new Failed
Fills wanted before now old new NoMemory = (read : List ℕ) × Gives old new read × FillCause wanted now old new NoMemory
