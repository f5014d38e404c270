use Rattle.std.proofs.Common.{◌≡◌, subst, List}
use Rattle.es_tree.specs.declared.tree.Named.{Named}
use Rattle.es_value.specs.declared.kinds.FieldType.{FieldType}
use Rattle.es_mapping.specs.Mappings.{IsWithin}
use Rattle.es_mapping.proofs.Projected.{IsWithin-itself}
use Rattle.es_mapping.proofs.mapping.Mapping.laws.Goals as goal

pub returns : goal.returns
returns c = subst (λ (fs : List (Named FieldType)). IsWithin fs fs) c.self.view_is (IsWithin-itself c.self.inside.fields.items c.self.invariant)
