-- How many looks of a connection's calls found each of their halves in the role cache.
use Rattle.std.specs.Prelude.{◌≡◌, ℕ, zero, suc, ◌+◌, Bool, true, false, List, [], ◌∷◌, ◌++◌, length, All}
use Rattle.std.specs.List.{flat_map}
use Rattle.es_edge.specs.Moves.{Input, Gives}
use Rattle.es_wire.specs.Requests.{Message, IsMessage, print_message, raw_of}
use Rattle.es_wire.specs.declared.receipt.Receipt.{Receipt}
use Rattle.es_session.specs.Legal.{given_of}
use Rattle.es_vault.specs.World.{opening_entry}
use Rattle.es_vault.specs.Answer.{Asked}
use Rattle.es_vault.specs.Vault.{VaultValue}
use Rattle.es_job.specs.Steps.{Phase, begun, step_of, is_hit, most_steps}
use Rattle.es_job.specs.Core.{opened}
use Rattle.es_drive.specs.Answer.{call_of}
use Rattle.es_drive.specs.Turns.{caller}

-- what steps leave that are made one after the other while nobody else uses the vault, and how many of them noted a hit
pub record Left : Type 0 where
  pub vault : VaultValue
  pub hits : ℕ

-- nothing was done
abbrev pub nothing_left : VaultValue → Left
nothing_left vault = record { vault = vault; hits = 0 }

-- a hit counts
abbrev pub count_of : Bool → ℕ
count_of true = 1
count_of false = 0

-- So many steps of a call that stands in this phase. Those behind its end change nothing and note no hit.
unfoldable pub left_by : ℕ → VaultValue → Asked → Phase → Left
left_by zero vault asked phase = nothing_left vault
left_by (suc count) vault asked phase = record {
  vault = (left_by count (step_of vault asked phase).vault asked (step_of vault asked phase).phase).vault;
  hits = count_of (is_hit (step_of vault asked phase).note) + (left_by count (step_of vault asked phase).vault asked (step_of vault asked phase).phase).hits;
}

-- all steps of these calls, one call after the other
unfoldable pub left_by_all : VaultValue → List Asked → Left
left_by_all vault [] = nothing_left vault
left_by_all vault (asked ∷ others) = record {
  vault = (left_by_all (left_by most_steps vault asked begun).vault others).vault;
  hits = (left_by most_steps vault asked begun).hits + (left_by_all (left_by most_steps vault asked begun).vault others).hits;
}

-- the calls of these requests, each with what its receipt says that it was given
abbrev pub calls_with : List Message → List Receipt → List Asked
calls_with [] rs = []
calls_with (m ∷ messages) [] = []
calls_with (m ∷ messages) (r ∷ rs) = call_of caller (raw_of m) (given_of r) ∷ calls_with messages rs

-- The bytes that were read begin with one request for each receipt, and these calls, run to their ends on a vault, make so many hits there.
pub record HasHits (vault : VaultValue) (old new : Input) (rs : List Receipt) (hits : ℕ) : Type 0 where
  pub read : List ℕ
  pub messages : List Message
  pub rest : List ℕ
  pub gave : Gives old new read
  pub whole : read ≡ flat_map print_message messages ++ rest
  pub each : All IsMessage messages
  pub all : length messages ≡ length rs
  pub hits_are : hits ≡ (left_by_all vault (calls_with messages rs)).hits

-- the vault that a node opens with
abbrev pub opened_vault : List ℕ → ℕ → ℕ → VaultValue
opened_vault secret limit capacity = (opened secret limit capacity (opening_entry ∷ [])).vault
