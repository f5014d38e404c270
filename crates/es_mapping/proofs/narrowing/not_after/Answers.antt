use Rattle.std.proofs.Common.{Bool, rules, of_calls, not}
use Rattle.std.proofs.lemmas.Fn.{always_returns_same}
use Rattle.es_mapping.specs.Paths.{comes_before}
use Rattle.es_tree.specs.declared.tree.Named.{Named}
use Rattle.es_value.specs.declared.kinds.FieldType.{FieldType}
use Rattle.es_mapping.specs.Possible.{left_from}
use Rattle.es_mapping.proofs.Narrowed.{parted_after, all-take, all-drop, all_not_not}
use Rattle.es_mapping.proofs.narrowing.not_after.Goals as goal

pub returns-clause-before : goal.returns-clause-before
returns-clause-before c =
    let fields = c.args.fields.now in
    let test : Named FieldType → Bool = λ f. not (comes_before c.args.name.now (left_from c.args.from f)) in
    let point = c.partition_point.ensures.partitioned test (always_returns_same _ _ _ (λ a r next called. (search (rules, of_calls), search (rules, of_calls)))) (parted_after c.args.from c.args.name.now fields c.requires) in
    all-take test fields c.partition_point.result c.partition_point.ensures.bound point.0

pub returns-clause-after : goal.returns-clause-after
returns-clause-after c =
    let fields = c.args.fields.now in
    let test : Named FieldType → Bool = λ f. not (comes_before c.args.name.now (left_from c.args.from f)) in
    let point = c.partition_point.ensures.partitioned test (always_returns_same _ _ _ (λ a r next called. (search (rules, of_calls), search (rules, of_calls)))) (parted_after c.args.from c.args.name.now fields c.requires) in
    all_not_not (λ (f : Named FieldType). comes_before c.args.name.now (left_from c.args.from f)) _ (all-drop test fields c.partition_point.result point.1)
