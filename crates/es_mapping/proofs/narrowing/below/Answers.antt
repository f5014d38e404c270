use Rattle.std.proofs.Common.{Bool, rules, of_calls, ◌++◌, codes, nat_eq}
use Rattle.std.specs.List.{starts_with}
use Rattle.std.proofs.lemmas.Fn.{always_returns_same}
use Rattle.es_tree.specs.declared.tree.Named.{Named}
use Rattle.es_value.specs.declared.kinds.FieldType.{FieldType}
use Rattle.es_mapping.specs.Possible.{left_from}
use Rattle.es_mapping.proofs.Narrowed.{parted_on, all-take, all-drop, none_behind, rising-take}
use Rattle.es_mapping.proofs.narrowing.below.Goals as goal

pub returns-clause-fields : goal.returns-clause-fields
returns-clause-fields c =
    let fields = c.args.fields.now in
    let test : Named FieldType → Bool = λ f. starts_with nat_eq (left_from c.args.from f) (c.args.name.now ++ codes ".") in
    let point = c.partition_point-count.ensures.partitioned test (always_returns_same _ _ _ (λ a r next called. (search (rules, of_calls), search (rules, of_calls)))) (parted_on c.args.from c.args.name.now fields c.requires.rising c.requires.after) in
    λ text. none_behind c.args.from c.partition_point-count.result c.args.name.now text fields (all-drop test fields c.partition_point-count.result point.1)

pub returns-clause-on : goal.returns-clause-on
returns-clause-on c =
    let fields = c.args.fields.now in
    let test : Named FieldType → Bool = λ f. starts_with nat_eq (left_from c.args.from f) (c.args.name.now ++ codes ".") in
    let point = c.partition_point-count.ensures.partitioned test (always_returns_same _ _ _ (λ a r next called. (search (rules, of_calls), search (rules, of_calls)))) (parted_on c.args.from c.args.name.now fields c.requires.rising c.requires.after) in
    all-take test fields c.partition_point-count.result c.partition_point-count.ensures.bound point.0

pub returns-clause-rising : goal.returns-clause-rising
returns-clause-rising c = rising-take c.args.from c.partition_point-count.result c.args.fields.now c.requires.rising
