use Rattle.std.proofs.Common.{◌≡◌, take}
use Rattle.es_records.specs.declared.change.SecurityChange.TheVariants.{Invalidate}
use Rattle.es_records.specs.Changes.{with_security}
use Rattle.es_records.proofs.records.Records.with_invalidated.Given as goal

-- the keys of the ids so far are invalidated
abbrev pub invariant-loop-id : goal.invariant-loop-id
invariant-loop-id l = l.records ≡ with_security l.self (Invalidate (take l.id-index l.ids))
