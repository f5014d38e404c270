-- Maps from texts whose values are replaced.
use Rattle.std.specs.Prelude.{ℕ, List, map as list_map}
use Rattle.std.specs.FinMap as map
use Rattle.es_catalog.specs.Catalog.{text_cmp}

-- each value replaced by what is made of its key and it
abbrev pub mapped : {A B : Type 0} → (List ℕ → A → B) → map.FinMap text_cmp A → map.FinMap text_cmp B
mapped f m = map.from_entries (list_map (λ e. (e.0, f e.0 e.1)) (map.entries m))
