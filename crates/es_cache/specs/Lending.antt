-- What a cache is once a reference into it has ended.
use Rattle.std.specs.Prelude.{◌≡◌, List, ⊤}
use Rattle.std.specs.Borrow.{Fml, RattleType, MutBor, follows_so}
use Rattle.std.specs.HashMap.Lent.{HashMembers}
use mathlib.Core.Option.{none}
use Rattle.es_cache.specs.Cache.{Cache, with_entries}
use Rattle.es_cache.specs.contracts.counted.Counted.{the_row}

module _ (K V : RattleType) (key : HashMembers K.Denot) where
  -- the cache's type, as the logic names it
  abbrev pub cache_row : RattleType
  cache_row = the_row K V (record {}) (record { eq = key.eq }) (record { hash_input = key.hash_input })

  -- it has these entries, and its count and capacity as before
  abbrev pub ends_with : MutBor (Cache K.Denot V.Denot) → List (K.Denot × V.Denot) → Fml
  ends_with cache entries = follows_so cache_row cache_row cache.ghost_name none (λ _ _. ⊤) (λ last. last ≡ with_entries cache.now entries)
