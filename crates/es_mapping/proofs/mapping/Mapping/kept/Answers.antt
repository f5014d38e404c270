use Rattle.std.proofs.Common.{Bool}
use Rattle.es_tree.specs.declared.tree.Named.{Named}
use Rattle.es_value.specs.declared.kinds.FieldType.{FieldType}
use Rattle.es_mapping.proofs.Projected.{is_mapping-all_kept, IsWithin-all_kept}
use Rattle.es_mapping.proofs.mapping.Mapping.kept.Goals as goal

pub of-requires : goal.of-requires
of-requires g c =
    let keeps : Named FieldType → Bool = λ field. g.T.PathTest.holds_of c.args.test.now field.name in
    is_mapping-all_kept keeps c.loop-field.kept.items c.as_slice-field-items.result.now c.self.inside.fields.items c.loop-field.field-index c.loop-field.invariant c.loop-field-test.false c.as_slice-field-items.ensures.value c.self.invariant

pub returns-clause-within : goal.returns-clause-within
returns-clause-within g c =
    let keeps : Named FieldType → Bool = λ field. g.T.PathTest.holds_of c.args.test.now field.name in
    IsWithin-all_kept keeps c.of.result c.loop-field.kept.items c.as_slice-field-items.result.now c.self.inside.fields.items c.args.self.now c.loop-field.field-index c.of.ensures.fields c.loop-field.invariant c.loop-field-test.false c.as_slice-field-items.ensures.value c.self.view_is c.self.invariant
