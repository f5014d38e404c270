-- A connection on a node, with what is outside.
use Rattle.std.specs.Prelude.{ℕ, List}
use Rattle.es_edge.specs.Moves.{Input, Output}
use Rattle.es_edge.specs.Draws.{Lots}
use Rattle.es_wire.specs.declared.receipt.Receipt.{Receipt}

-- the journal, the bytes that were read and belong to no answered request, the receipts, and the source, the sink and the chance
pub record State (Entry : Type 0) : Type 0 where
  pub journal : List Entry
  pub pending : List ℕ
  pub receipts : List Receipt
  pub input : Input
  pub output : Output
  pub lots : Lots
