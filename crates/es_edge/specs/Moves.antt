-- What the calls of a source and of a sink move.
use Rattle.std.specs.Prelude.{◌≡◌, ℕ, ◌<◌, ◌≤◌, List, [], length, take, Option, ⊤, IfSome, Bool}
use Rattle.std.specs.Io.KnownBytes.{prepend_known, append_known}
use Rattle.es_edge.specs.declared.traits.Got.{Got}
use Rattle.es_edge.specs.declared.traits.Got.TheVariants as got
use Rattle.es_edge.specs.declared.traits.Took.{Took}
use Rattle.es_edge.specs.declared.traits.Took.TheVariants as took
use Rattle.es_edge.specs.Causes.{Rose}

-- a source as contracts see it: the bytes that it gave and those that are left, where it tells them, and its counts
pub record Input : Type 0 where
  pub given : Option (List ℕ)
  pub left : Option (List ℕ)
  pub faults : ℕ
  pub ends : ℕ
  pub is_open : Bool

-- a sink as contracts see it
pub record Output : Type 0 where
  pub written : Option (List ℕ)
  pub faults : ℕ
  pub is_open : Bool

-- between the two the source gave these bytes
pub record Gives (old new : Input) (bytes : List ℕ) : Type 0 where
  pub given : new.given ≡ append_known old.given bytes
  pub left : old.left ≡ prepend_known bytes new.left
  pub faults : old.faults ≤ new.faults
  pub ends : old.ends ≤ new.ends
  pub is_open : new.is_open ≡ old.is_open

-- between the two the sink took these bytes
pub record Takes (old new : Output) (bytes : List ℕ) : Type 0 where
  pub written : new.written ≡ append_known old.written bytes
  pub faults : old.faults ≤ new.faults
  pub is_open : new.is_open ≡ old.is_open

-- the bytes at the front of the buffer that the read gave
abbrev pub given_bytes : Got → List ℕ → List ℕ
given_bytes (got.Bytes n) buf = take n buf
given_bytes got.End buf = []
given_bytes got.Failed buf = []

-- a read gives one byte or more, at most the buffer's length
abbrev pub IsReadCount : Got → List ℕ → Type 0
IsReadCount (got.Bytes n) buf = (0 < n) × (n ≤ length buf)
IsReadCount got.End buf = ⊤
IsReadCount got.Failed buf = ⊤

-- the source ended: its count of ends rose, and where it tells what is left, nothing is left
abbrev pub HasEnded : Input → Input → Type 0
HasEnded old new = Rose old.ends new.ends × IfSome new.left (λ left. left ≡ [])

-- an end and a fault have their causes, and nothing else moves a count
abbrev pub HasReadCause : Got → Input → Input → Type 0
HasReadCause (got.Bytes n) old new = (new.faults ≡ old.faults) × (new.ends ≡ old.ends)
HasReadCause got.End old new = HasEnded old new × (new.faults ≡ old.faults)
HasReadCause got.Failed old new = Rose old.faults new.faults × (new.ends ≡ old.ends)

-- what a read did
pub record Reads (old new : Input) (buf : List ℕ) (got : Got) : Type 0 where
  pub count : IsReadCount got buf
  pub moved : Gives old new (given_bytes got buf)
  pub cause : HasReadCause got old new

-- the bytes that the write took
abbrev pub taken_bytes : Took → List ℕ → List ℕ
taken_bytes (took.Bytes n) bytes = take n bytes
taken_bytes took.Failed bytes = []

-- a write takes one byte or more of what is offered
abbrev pub IsWriteCount : Took → List ℕ → Type 0
IsWriteCount (took.Bytes n) bytes = (0 < n) × (n ≤ length bytes)
IsWriteCount took.Failed bytes = ⊤

-- a fault has its cause, and nothing else moves the count
abbrev pub HasWriteCause : Took → Output → Output → Type 0
HasWriteCause (took.Bytes n) old new = new.faults ≡ old.faults
HasWriteCause took.Failed old new = Rose old.faults new.faults

-- what a write did
pub record Writes (old new : Output) (bytes : List ℕ) (took : Took) : Type 0 where
  pub count : IsWriteCount took bytes
  pub moved : Takes old new (taken_bytes took bytes)
  pub cause : HasWriteCause took old new
