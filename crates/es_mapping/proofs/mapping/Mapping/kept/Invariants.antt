use Rattle.std.proofs.Common.{◌≡◌, take}
use Rattle.std.specs.List.{filter}
use Rattle.es_mapping.proofs.mapping.Mapping.kept.Given as goal

-- those of the fields so far that the test holds on
abbrev pub invariant-loop-field : goal.invariant-loop-field
invariant-loop-field g l = l.kept.items ≡ filter (λ field. g.T.PathTest.holds_of l.test field.name) (take l.field-index l.field-items)
