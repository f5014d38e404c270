-- The entries of a cache: pairs of a key and a value, the most recently used first.
use Rattle.std.specs.Prelude.{ℕ, ◌-◌, Bool, not, List, ◌∷◌, take, filter}
use Rattle.std.specs.List.{list_any}
use Rattle.std.specs.Option.{option_map_or}
use Rattle.std.specs.Map.{lookup_entry, remove_entry}

module _ {K V : Type 0} where
  -- the entry whose key passes the test comes first, and the others behind it in their order; where there is none, all stay
  abbrev pub brought_first : (K → Bool) → List (K × V) → List (K × V)
  brought_first test entries = option_map_or (λ entry. entry ∷ remove_entry test entries) (lookup_entry test entries) entries

  module _ (same : K → K → Bool) where
    -- An equal key that is there comes first, with the value. Where there is none, the key comes first with the value, and behind it the first entries for which the capacity leaves room.
    abbrev pub put_first : ℕ → K → V → List (K × V) → List (K × V)
    put_first capacity key value entries =
        option_map_or (λ entry. (entry.0, value) ∷ remove_entry (same key) entries) (lookup_entry (same key) entries) ((key, value) ∷ take (capacity - 1) entries)

    -- the entries with keys that are equal to none of these, in their order
    abbrev pub without_keys : List K → List (K × V) → List (K × V)
    without_keys keys entries = filter (λ entry. not (list_any (λ key. same key entry.0) keys)) entries
