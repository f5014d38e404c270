use Rattle.std.proofs.Common.{◌≡◌, ◌∙◌, List, IfOk, map, ap, subst}
use Rattle.es_tree.specs.declared.tree.Tree.{Tree}
use Rattle.es_tree.specs.declared.tree.Named.{Named}
use Rattle.es_value.specs.declared.kinds.FieldType.{FieldType}
use Rattle.es_mapping.specs.Printed.{left_at, have_names}
use Rattle.es_mapping.proofs.Back.{known, mapping_back, whole_tree}
use Rattle.es_mapping.proofs.mapping.Mapping.print.Goals as goal

pub properties-requires-clause-named : goal.properties-requires-clause-named
properties-requires-clause-named c =
    ap (λ (l : List (Named FieldType)). have_names (map (left_at 0) l)) c.fields.ensures.fields ∙ (known c.args.self.now c.fields.ensures.are_apart).named

pub returns-in_err-fields-clause-reads_back : goal.returns-in_err-fields-clause-reads_back
returns-in_err-fields-clause-reads_back c = mapping_back c.args.self.now c.fields.ensures.are_apart

pub returns-clause-tree : goal.returns-clause-tree
returns-clause-tree c =
    subst (λ (whole : Tree). IfOk c.object_of.result (λ printed. printed ≡ whole)) (whole_tree c.args.self.now c.fields.result.now c.in_ok-fields.fields c.fields.ensures.fields c.in_ok-fields.ensures) c.object_of.ensures

pub returns-clause-reads_back : goal.returns-clause-reads_back
returns-clause-reads_back c = mapping_back c.args.self.now c.fields.ensures.are_apart
