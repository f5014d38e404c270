use Rattle.std.specs.Prelude.{◌≡◌}
use Rattle.std.specs.FinMap as map
use Rattle.std.specs.Option.{option_copied}
use Rattle.es_keys.specs.Printed.{key_text}
use Rattle.es_records.specs.Keys.{is_owned}
use Rattle.es_job.proofs.Listing.{kept_of}
use Rattle.es_job.proofs.reads.key_texts.Given as goal

-- the texts of the owner's keys among the first
abbrev pub invariant-loop-place : goal.invariant-loop-place
invariant-loop-place l = l.texts ≡ kept_of (is_owned (option_copied l.fn.owner)) key_text (map.values l.fn.records.keys) l.place
