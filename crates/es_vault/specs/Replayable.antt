-- Journals that can be replayed.
use Rattle.std.specs.Prelude.{◌≡◌, ⊤, ℕ, ◌+◌, ◌≤◌, false, List, [], ◌∷◌, IfSome}
use Rattle.es_keys.specs.declared.kinds.KeyRecord.{KeyRecord}
use Rattle.es_keys.specs.Keys.{id_of}
use Rattle.es_records.specs.declared.change.SecurityChange.{SecurityChange}
use Rattle.es_records.specs.declared.change.SecurityChange.TheVariants.{PutRole, DeleteRole, PutUser, DeleteUser, AddKey, Invalidate, ClearCache}
use Rattle.es_vault.specs.World.{Change, opening, security, doc, Entry, opening_entry}

-- the greatest moment of a call, and the greatest moment at which a key expires, in milliseconds since 1970
abbrev pub last_moment : ℕ
last_moment = 4000000000000000

abbrev pub last_expiry : ℕ
last_expiry = 5000000000000000

-- a key as an entry adds it: the entry's place is in its id, so that no other key has it
pub record IsNew (place : ℕ) (kept : KeyRecord) : Type 0 where
  pub id : kept.id ≡ id_of place
  pub good : kept.invalidated ≡ false
  pub made : kept.made ≤ last_moment
  pub expires : IfSome kept.expires (λ end. end ≤ last_expiry)

abbrev pub SecurityFitsAt : ℕ → SecurityChange → Type 0
SecurityFitsAt place (PutRole name role) = ⊤
SecurityFitsAt place (DeleteRole name) = ⊤
SecurityFitsAt place (PutUser user) = ⊤
SecurityFitsAt place (DeleteUser name) = ⊤
SecurityFitsAt place (AddKey kept) = IsNew place kept
SecurityFitsAt place (Invalidate ids) = ⊤
SecurityFitsAt place (ClearCache names every) = ⊤

-- a change that the entry at the place may make: it is no opening, and a key that it adds is new there
abbrev pub FitsAt : ℕ → Change → Type 0
FitsAt place opening = ⊥
FitsAt place (security change) = SecurityFitsAt place change
FitsAt place (doc change) = ⊤

-- each of the entries, of which the first is the one after so many others, may make its change
abbrev pub AllFitAfter : ℕ → List Entry → Type 0
AllFitAfter count [] = ⊤
AllFitAfter count (e ∷ entries) = FitsAt (count + 1) e.change × AllFitAfter (count + 1) entries

-- a journal that can be replayed: the opening, and then changes that fit
pub record IsReplayable (J : List Entry) : Type 0 where
  pub entries : List Entry
  pub opens : J ≡ opening_entry ∷ entries
  pub fit : AllFitAfter 1 entries
