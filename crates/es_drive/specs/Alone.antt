-- A call that is run to its end while nobody else uses the vault.
use Rattle.std.specs.Prelude.{◌≡◌, ℕ, ◌⊎◌, ◌||◌, Bool, true, false, Option, Some, None, is_some}
use Rattle.es_response.specs.Reply.{ReplyValue}
use Rattle.es_request.specs.declared.call.Call.{Call}
use Rattle.es_vault.specs.declared.look.Snapshot.{Snapshot}
use Rattle.es_vault.specs.World.{Entry, PlacedWorld, advanced}
use Rattle.es_vault.specs.Answer.{Asked}
use Rattle.es_vault.specs.Vault.{VaultValue}
use Rattle.es_job.specs.Answer.{Answer, answer_in, is_due}
use Rattle.es_job.specs.Steps.{Phase, begun, publishing, changing, ended, Stepped, is_hit, ready_after}
use Rattle.es_job.specs.Job.{JobValue}

-- the world after the entry that was added, if one was
abbrev pub world_after : PlacedWorld → Option Entry → PlacedWorld
world_after at None = at
world_after at (Some e) = advanced at e

-- what was told was given, at its place, and its change made
pub record IsAnswered (told : Answer) (place : ℕ) (reply : ReplyValue) (changed : Bool) (old new : PlacedWorld) : Type 0 where
  pub reply_is : reply ≡ told.reply
  pub changed_is : changed ≡ is_some told.entry
  pub world : new ≡ world_after old told.entry
  pub place_is : place ≡ new.place

-- what a look found is the vault's present world
pub record IsPresent (at : PlacedWorld) (changes : ℕ) (s : Snapshot) : Type 0 where
  pub records : s.records ≡ at.world.records
  pub catalog : s.catalog ≡ at.world.catalog
  pub place : s.place ≡ at.place
  pub count : s.count ≡ changes

-- where a call that is run alone may be: what it holds is the world that it began with, until it ends with what is told there
unfoldable pub IsAloneAt : ℕ → PlacedWorld → Asked → VaultValue → Phase → Type 0
IsAloneAt limit at asked vault begun = vault.at ≡ at
IsAloneAt limit at asked vault (publishing s keys) = (vault.at ≡ at) × IsPresent at vault.roles.count s
IsAloneAt limit at asked vault (changing s) = (vault.at ≡ at) × IsPresent at vault.roles.count s × (is_due at.world.records at.place asked.call ≡ true)
IsAloneAt limit at asked vault (ended place changed reply) = IsAnswered (answer_in limit at asked) place reply changed at vault.at

-- a step was made, and the local work behind it done
pub record IsStepped (stepped : Stepped) (old new : JobValue) (vault : VaultValue) : Type 0 where
  pub left : vault ≡ stepped.vault
  pub call : new.call ≡ old.call
  pub phase : new.phase ≡ stepped.phase
  pub hit : new.hit ≡ (old.hit || is_hit stepped.note)
  pub ready : new.ready ≡ true

-- memory was refused: the vault is as it was, or as the step left it, behind which local work was due
pub record IsLeft (stepped : Stepped) (old new : VaultValue) : Type 0 where
  pub either : (new ≡ old) ⊎ ((new ≡ stepped.vault) × (ready_after stepped.note stepped.phase ≡ false))

-- A job that is run alone, and of which no local work is due.
pub record RunsAlone (limit : ℕ) (at : PlacedWorld) (call : Call) (vault : VaultValue) (job : JobValue) : Type 0 where
  pub call_is : job.call ≡ call
  pub limit_is : vault.limit ≡ limit
  pub phase : (caller : ℕ) → IsAloneAt limit at (record { caller = caller; call = call }) vault job.phase
  pub ready : job.ready ≡ true
