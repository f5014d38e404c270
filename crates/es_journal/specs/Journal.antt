-- A call that was answered, in a list of entries.
use Rattle.std.specs.Prelude.{◌≡◌, ℕ, ◌-◌, ◌<◌, ◌≤◌, Bool, List, length, take, Option, None, slice_get, IsTrue, IsSome, if◌then◌else◌}

-- a reply, and the entry that an accepted change adds
pub record Told (Reply Entry : Type 0) : Type 0 where
  pub reply : Reply
  pub entry : Option Entry

-- the entries after which a call was answered: those before its own, or those up to its place
abbrev pub seen_by : {Entry : Type 0} → List Entry → ℕ → Bool → List Entry
seen_by J place changed = if changed then take (place - 1) J else take place J

-- the entry that the call added
abbrev pub added_by : {Entry : Type 0} → List Entry → ℕ → Bool → Option Entry
added_by J place changed = if changed then slice_get J (place - 1) else None

module _ {Reply Entry Call : Type 0} (answer : List Entry → Call → Told Reply Entry) where
  -- what the call was told
  unfoldable pub told_at : List Entry → Call → ℕ → Bool → Told Reply Entry
  told_at J call place changed = answer (seen_by J place changed) call

  -- The call was answered after those entries. Its entry stands at its place in the list; a call that added none was told none.
  pub record IsLegalCall (J : List Entry) (call : Call) (place : ℕ) (changed : Bool) : Type 0 where
    pub from : 0 < place
    pub to : place ≤ length J
    pub entry : (told_at J call place changed).entry ≡ added_by J place changed
    pub stands : IsTrue changed → IsSome (added_by J place changed)
