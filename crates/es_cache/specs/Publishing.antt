-- When an entry that a loader publishes is taken.
use Rattle.std.specs.Prelude.{ℕ, ◌==◌, if◌then◌else◌}
use Rattle.es_cache.specs.declared.published.Published.{Published}
use Rattle.es_cache.specs.declared.published.Published.TheVariants.{Put, Stale}

-- it is put if the count at which its loader began is the one that stands, and otherwise it is stale
abbrev pub answer_at : ℕ → ℕ → Published
answer_at began stands = if began == stands then Put else Stale began stands
