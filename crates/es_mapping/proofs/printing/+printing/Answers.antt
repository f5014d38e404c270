use Rattle.std.proofs.Common.{rules, ◌≡◌, ◌∙◌, ◌+◌, ◌-◌, ◌<◌, ◌≤◌, suc, List, ℕ, true, IfOk, IsTrue, Some, None, map, take, drop, length, slice_get, sym, ap, subst, arith, length-drop}
use Rattle.std.proofs.lemmas.List.{length-take}
use Rattle.std.specs.Option.{option_copied}
use Rattle.es_tree.specs.declared.tree.Tree.{Tree}
use Rattle.es_tree.specs.declared.tree.Tree as tree
use Rattle.es_tree.specs.declared.tree.Named.{Named}
use Rattle.es_tree.specs.Rising.{name_of, is_rising}
use Rattle.es_value.specs.declared.kinds.FieldType.{FieldType}
use Rattle.es_mapping.specs.Paths.{pieces}
use Rattle.es_mapping.specs.Printed.{properties_tree, single, most_pieces, left_at, group_trees, are_parted, have_names}
use Rattle.es_mapping.proofs.Groups.{have_names-drop_at}
use Rattle.es_mapping.proofs.Runs.{run_at, run_within, added_group, no_name, named_by_first, field_tree-named, field_tree-typed, rest_of, all_groups, rising_trees}
use Rattle.es_mapping.proofs.printing.+printing.Goals as goal

pub add_group-unreachable-requires : goal.add_group-unreachable-requires
add_group-unreachable-requires t c =
    let d = c.args.depth in
    let m = c.index-fields-0.result in
    let none : slice_get (pieces m.name) d ≡ None = ap (λ s. slice_get (pieces s) d) (ap (λ (n : Named FieldType). n.name) c.index-fields-0.is ∙ sym c.text.ensures) ∙ sym c.piece.ensures ∙ ap option_copied c.in_default.is in
    no_name d c.args.fields.now m c.requires.some c.index-fields-0.is none c.requires.named

pub add_group-slice_bounds-field-end : goal.add_group-slice_bounds-field-end
add_group-slice_bounds-field-end t c =
    let d = c.args.depth in
    let fs = c.args.fields.now in
    let count = c.with_name-count.result in
    let within : count ≤ length fs = rw c.with_name-count.ensures (run_within d c.in-Some.name.now fs) in
    omega (arith, length-take count fs)

pub add_group-field-requires : goal.add_group-field-requires
add_group-field-requires t c =
    let d = c.args.depth in
    let m = c.index-fields-0.result in
    let next : suc d ≡ d + 1 = omega arith in
    let found : slice_get (pieces m.name) d ≡ Some c.in-Some.name.now = ap (λ s. slice_get (pieces s) d) (ap (λ (n : Named FieldType). n.name) c.index-fields-0.is ∙ sym c.text.ensures) ∙ sym c.piece.ensures ∙ ap option_copied c.in-Some.is in
    let run = run_at d (d + 1) c.in-Some.name.now c.args.fields.now m c.with_name-count.result next c.requires.some c.index-fields-0.is found c.requires.named c.with_name-count.ensures in
    let some : 0 < length (take c.with_name-count.result c.args.fields.now) = omega (arith, run.some, run.within, length-take c.with_name-count.result c.args.fields.now) in
    (search rules, (omega arith, (some, run.parted)))

pub add_group-returns-clause-some : goal.add_group-returns-clause-some
add_group-returns-clause-some t c =
    let d = c.args.depth in
    let m = c.index-fields-0.result in
    let next : suc d ≡ d + 1 = omega arith in
    let found : slice_get (pieces m.name) d ≡ Some c.in-Some.name.now = ap (λ s. slice_get (pieces s) d) (ap (λ (n : Named FieldType). n.name) c.index-fields-0.is ∙ sym c.text.ensures) ∙ sym c.piece.ensures ∙ ap option_copied c.in-Some.is in
    (run_at d (d + 1) c.in-Some.name.now c.args.fields.now m c.with_name-count.result next c.requires.some c.index-fields-0.is found c.requires.named c.with_name-count.ensures).some

pub add_group-returns-clause-within : goal.add_group-returns-clause-within
add_group-returns-clause-within t c =
    let d = c.args.depth in
    let m = c.index-fields-0.result in
    let next : suc d ≡ d + 1 = omega arith in
    let found : slice_get (pieces m.name) d ≡ Some c.in-Some.name.now = ap (λ s. slice_get (pieces s) d) (ap (λ (n : Named FieldType). n.name) c.index-fields-0.is ∙ sym c.text.ensures) ∙ sym c.piece.ensures ∙ ap option_copied c.in-Some.is in
    (run_at d (d + 1) c.in-Some.name.now c.args.fields.now m c.with_name-count.result next c.requires.some c.index-fields-0.is found c.requires.named c.with_name-count.ensures).within

pub add_group-returns-clause-added : goal.add_group-returns-clause-added
add_group-returns-clause-added t c =
    let d = c.args.depth in
    let m = c.index-fields-0.result in
    let next : suc d ≡ d + 1 = omega arith in
    let found : slice_get (pieces m.name) d ≡ Some c.in-Some.name.now = ap (λ s. slice_get (pieces s) d) (ap (λ (n : Named FieldType). n.name) c.index-fields-0.is ∙ sym c.text.ensures) ∙ sym c.piece.ensures ∙ ap option_copied c.in-Some.is in
    let run = run_at d (d + 1) c.in-Some.name.now c.args.fields.now m c.with_name-count.result next c.requires.some c.index-fields-0.is found c.requires.named c.with_name-count.ensures in
    added_group (most_pieces - (d + 1)) d (d + 1) c.in-Some.name.now c.args.fields.now c.with_name-count.result run c.args.members.now c.add.new.members c.in_ok-value.value c.in_ok-value.ensures c.in_ok-add.ensures.ok

pub field-properties-requires : goal.field-properties-requires
field-properties-requires t c =
    let d = c.args.depth in
    let m = c.index-fields-0.result in
    let found : slice_get (pieces m.name) d ≡ Some c.in-Some.field-0.now = ap (λ s. slice_get (pieces s) d) (ap (λ (n : Named FieldType). n.name) c.index-fields-0.is ∙ sym c.text.ensures) ∙ sym c.piece.ensures ∙ ap option_copied c.in-Some.is in
    (search rules, (c.requires.within, named_by_first d c.in-Some.field-0.now c.args.fields.now m c.requires.some c.index-fields-0.is found c.requires.parted))

pub field-returns-in_ok-properties-in-Some : goal.field-returns-in_ok-properties-in-Some
field-returns-in_ok-properties-in-Some t c =
    let d = c.args.depth in
    let m = c.index-fields-0.result in
    let found : slice_get (pieces m.name) d ≡ Some c.in-Some.field-0.now = ap (λ s. slice_get (pieces s) d) (ap (λ (n : Named FieldType). n.name) c.index-fields-0.is ∙ sym c.text.ensures) ∙ sym c.piece.ensures ∙ ap option_copied c.in-Some.is in
    subst (λ (whole : Tree). IfOk c.object_of.result (λ tree. tree ≡ whole))
    (ap (single _) c.in_ok-properties-in-Some.ensures ∙ field_tree-named (most_pieces - d) d c.in-Some.field-0.now c.args.fields.now m c.requires.some c.index-fields-0.is found) c.object_of.ensures

pub field-returns-in-None : goal.field-returns-in-None
field-returns-in-None t c =
    let d = c.args.depth in
    let m = c.index-fields-0.result in
    let none : slice_get (pieces m.name) d ≡ None = ap (λ s. slice_get (pieces s) d) (ap (λ (n : Named FieldType). n.name) c.index-fields-0.is ∙ sym c.text.ensures) ∙ sym c.piece.ensures ∙ ap option_copied c.in-None.is in
    subst (λ (whole : Tree). IfOk c.typed.result (λ tree. tree ≡ whole))
    (field_tree-typed (most_pieces - d) d c.args.fields.now m c.index-fields-0-in-None.result c.requires.some c.index-fields-0.is none) c.typed.ensures

pub properties-add_group-requires : goal.properties-add_group-requires
properties-add_group-requires t c =
    let d = c.args.depth in
    let fs = c.args.fields.now in
    let from = c.loop-from.from in
    let some : 0 < length (take (length fs - from) (drop from fs)) = rw (rest_of from fs) (omega (arith, length-drop from fs)) in
    let named : have_names (map (left_at d) (take (length fs - from) (drop from fs))) ≡ true = ap (λ (l : List (Named FieldType)). have_names (map (left_at d) l)) (rest_of from fs) ∙ have_names-drop_at d from fs c.requires.named in
    (search rules, (omega arith, (some, named)))

pub properties-of-requires : goal.properties-of-requires
properties-of-requires t c =
    let d = c.args.depth in
    let fs = map (left_at d) c.args.fields.now in
    let n = most_pieces - (d + 1) in
    let members : c.loop-from.members ≡ group_trees n fs = all_groups n d c.loop-from.from c.args.fields.now c.loop-from.members (group_trees n fs) c.loop-from-test.false c.loop-from.invariant.1 in
    ap (λ (l : List (Named Tree)). is_rising (map name_of l)) members ∙ rising_trees n fs c.requires.named

pub properties-returns : goal.properties-returns
properties-returns t c =
    let d = c.args.depth in
    let fs = map (left_at d) c.args.fields.now in
    let n = most_pieces - (d + 1) in
    let members : c.loop-from.members ≡ group_trees n fs = all_groups n d c.loop-from.from c.args.fields.now c.loop-from.members (group_trees n fs) c.loop-from-test.false c.loop-from.invariant.1 in
    let more : suc n ≡ most_pieces - d = omega arith in
    ap tree.Object (c.of.ensures ∙ members) ∙ ap (λ k. properties_tree k fs) more
