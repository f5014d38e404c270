use Rattle.std.proofs.Common.{◌≡◌, ◌∙◌, sym, ap, map, true, Ok, List, ◌&&◌}
use Rattle.std.specs.List.{list_all}
use Rattle.es_tree.specs.declared.tree.Named.{Named}
use Rattle.es_tree.specs.Rising.{name_of}
use Rattle.es_grammar.specs.Reading.{if_holds}
use Rattle.es_value.specs.declared.kinds.FieldType.{FieldType}
use Rattle.es_mapping.specs.Paths.{are_paths, is_path}
use Rattle.es_mapping.specs.Mappings.{in_order}
use Rattle.es_mapping.specs.Below.{neighbours_apart}
use Rattle.es_mapping.proofs.Arranged.{are_paths-sorted, arranged_fails, in_order-sorted, is_mapping-sorted}
use Rattle.es_mapping.proofs.arranging.arranged.Goals as goal

same : (items sorted : List (Named FieldType)) → items ≡ sorted → (list_all (λ f. is_path f.name) items && neighbours_apart (map name_of items)) ≡ (list_all (λ f. is_path f.name) sorted && neighbours_apart (map name_of sorted))
same items sorted e = ap (λ l. list_all (λ (f : Named FieldType). is_path f.name) l && neighbours_apart (map name_of l)) e

pub returns-then-not-are_paths-clause-gives : goal.returns-then-not-are_paths-clause-gives
returns-then-not-are_paths-clause-gives c =
    let fields = c.args.fields in
    let found = c.in_ok-fields in
    arranged_fails c.here.result fields c.here.ensures (are_paths-sorted fields found.fields.items found.ensures.moved found.ensures.sorted ∙ sym (same c.as_slice.result.now found.fields.items c.as_slice.ensures.value) ∙ sym c.are_paths.ensures ∙ c.if-not-are_paths.true)

pub of-requires : goal.of-requires
of-requires c =
    let fields = c.args.fields in
    let found = c.in_ok-fields in
    is_mapping-sorted fields found.fields.items found.ensures.moved found.ensures.sorted (are_paths-sorted fields found.fields.items found.ensures.moved found.ensures.sorted ∙ sym (same c.as_slice.result.now found.fields.items c.as_slice.ensures.value) ∙ sym c.are_paths.ensures ∙ c.if-not-are_paths.false)

pub returns-clause-gives : goal.returns-clause-gives
returns-clause-gives c =
    let fields = c.args.fields in
    let found = c.in_ok-fields in
    let paths : are_paths (map name_of fields) ≡ true = are_paths-sorted fields found.fields.items found.ensures.moved found.ensures.sorted ∙ sym (same c.as_slice.result.now found.fields.items c.as_slice.ensures.value) ∙ sym c.are_paths.ensures ∙ c.if-not-are_paths.false in
    ap (λ b. if_holds b (in_order fields)) paths ∙ ap Ok (in_order-sorted fields found.fields.items found.ensures.moved found.ensures.sorted paths ∙ sym c.of.ensures.fields)
