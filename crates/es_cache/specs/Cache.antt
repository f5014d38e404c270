-- What a contract sees of a cache.
use Rattle.std.specs.Prelude.{ℕ, List, [], refl}
use Rattle.std.specs.Coded.{Coded, code_by, coded×, coded_list, coded_ℕ}

-- pairs of a key and a value, the most recently used first; how often something was invalidated; and how many pairs there may be
pub record Cache (K V : Type 0) : Type 0 where
  pub entries : List (K × V)
  pub count : ℕ
  pub capacity : ℕ

module _ {K V : Type 0} where
  -- a cache is stored as the tuple of the three
  abbrev pub cache_code : Coded K → Coded V → Coded (Cache K V)
  cache_code key value =
      code_by (List (K × V) × (ℕ × ℕ)) (coded× (coded_list (coded× key value)) (coded× coded_ℕ coded_ℕ)) (λ c. (c.entries, (c.count, c.capacity)))
      (λ p. record { entries = p.0; count = p.1.0; capacity = p.1.1 }) (λ _. refl)

  -- no entries, and nothing invalidated
  abbrev pub no_entries : ℕ → Cache K V
  no_entries capacity = record { entries = []; count = 0; capacity = capacity }

  -- the cache with these entries in the place of its own
  abbrev pub with_entries : Cache K V → List (K × V) → Cache K V
  with_entries cache entries = record cache { entries = entries }
