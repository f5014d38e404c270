-- How many hits were counted so far.
use Rattle.std.specs.Prelude.{◌≡◌, ⊤, ℕ, ◌+◌, ◌≤◌, Bool, false, List, [], ◌∷◌, ◌++◌, length, All}
use Rattle.std.specs.List.{flat_map}
use Rattle.es_edge.specs.Moves.{Input, Gives}
use Rattle.es_wire.specs.declared.request.RawRequest.{RawRequest}
use Rattle.es_wire.specs.declared.receipt.Receipt.{Receipt}
use Rattle.es_wire.specs.Requests.{Message, IsMessage, print_message}
use Rattle.es_session.specs.Legal.{given_of}
use Rattle.es_vault.specs.Answer.{Asked}
use Rattle.es_vault.specs.Vault.{VaultValue}
use Rattle.es_job.specs.Steps.{Phase, begun, publishing, changing, ended, steps_left, most_steps}
use Rattle.es_drive.specs.Answer.{call_of}
use Rattle.es_drive.specs.Turns.{caller}
use Rattle.es_drive.specs.Hits.{count_of, left_by, left_by_all, calls_with}
use Rattle.es_drive.specs.declared.run.Turn.{Turn}
use Rattle.es_drive.specs.declared.run.Turn.TheVariants as turn

-- the call was run to its end on a vault, which it left so, with so many hits
abbrev pub IsRunOut : VaultValue → Asked → VaultValue → ℕ → Type 0
IsRunOut old asked new hits = (new ≡ (left_by most_steps old asked begun).vault) × (hits ≡ (left_by most_steps old asked begun).hits)

-- a call that has only begun has noted nothing
abbrev pub IsFresh : Phase → Bool → Type 0
IsFresh begun hit = hit ≡ false
IsFresh (publishing s keys) hit = ⊤
IsFresh (changing s) hit = ⊤
IsFresh (ended place changed reply) hit = ⊤

-- What was noted of a call and what its further steps leave are together what all of its steps leave.
pub record IsOnWay (old vault : VaultValue) (asked : Asked) (phase : Phase) (hit : Bool) : Type 0 where
  pub count : ℕ
  pub enough : steps_left phase ≤ count
  pub vault_is : (left_by most_steps old asked begun).vault ≡ (left_by count vault asked phase).vault
  pub hits_are : (left_by most_steps old asked begun).hits ≡ count_of hit + (left_by count vault asked phase).hits
  pub fresh : IsFresh phase hit

-- one request was answered, and its hit counted
pub record TalliesOne (old new : VaultValue) (raw : RawRequest) (rs rs' : List Receipt) (hits hits' : ℕ) : Type 0 where
  pub receipt : Receipt
  pub receipts : rs' ≡ rs ++ receipt ∷ []
  pub vault_is : new ≡ (left_by most_steps old (call_of caller raw (given_of receipt)) begun).vault
  pub hits_are : hits' ≡ hits + (left_by most_steps old (call_of caller raw (given_of receipt)) begun).hits

-- what was pending and what was read begin with one request for each receipt that was added, and the hits of their calls were counted
pub record Tallies (vault : VaultValue) (pending : List ℕ) (old new : Input) (rs rs' : List Receipt) (hits hits' : ℕ) : Type 0 where
  pub read : List ℕ
  pub messages : List Message
  pub added : List Receipt
  pub rest : List ℕ
  pub gave : Gives old new read
  pub whole : pending ++ read ≡ flat_map print_message messages ++ rest
  pub each : All IsMessage messages
  pub all : length messages ≡ length added
  pub receipts : rs' ≡ rs ++ added
  pub hits_are : hits' ≡ hits + (left_by_all vault (calls_with messages added)).hits

-- the same where the connection goes on, from the vault that the calls left
pub record TalliesOn (vault vault' : VaultValue) (pending pending' : List ℕ) (old new : Input) (rs rs' : List Receipt) (hits hits' : ℕ) : Type 0 where
  pub tally : Tallies vault pending old new rs rs' hits hits'
  pub rest_is : tally.rest ≡ pending'
  pub vault_is : vault' ≡ (left_by_all vault (calls_with tally.messages tally.added)).vault

-- what a turn counts
abbrev pub TalliesIn : VaultValue → VaultValue → List ℕ → List ℕ → Input → Input → List Receipt → List Receipt → ℕ → ℕ → Turn → Type 0
TalliesIn vault vault' pending pending' old new rs rs' hits hits' turn.Goes = TalliesOn vault vault' pending pending' old new rs rs' hits hits'
TalliesIn vault vault' pending pending' old new rs rs' hits hits' turn.Closes = TalliesOn vault vault' pending pending' old new rs rs' hits hits'
TalliesIn vault vault' pending pending' old new rs rs' hits hits' (turn.Ends end) = Tallies vault pending old new rs rs' hits hits'
