use Rattle.std.proofs.Common.{rules, sym, ap, subst, ◌∙◌, ◌≡◌, ◌+◌, ◌∷◌, List, ℕ, drop, length, Option, arith}
use Rattle.std.specs.Prelude.{◌==◌}
use Rattle.std.specs.Option.{option_copied}
use Rattle.std.specs.List.{flat_map}
use Rattle.std.proofs.lemmas.List.{drop_more, nil_from_length}
use Rattle.std.proofs.lemmas.Bool.Decides.{Decides-eqb}
use Rattle.es_tree.specs.declared.tree.Tree.{Tree}
use Rattle.es_tree.specs.declared.tree.Named.{Named}
use Rattle.es_tree.specs.Leaves.{Path, paths_of, extended}
use Rattle.es_value.specs.declared.kinds.FieldType.{FieldType}
use Rattle.es_mapping.specs.Checking.{Checks, IsFault}
use Rattle.es_mapping.specs.Possible.{rest_of, first_along}
use Rattle.es_mapping.proofs.Walked.{no_field, nothing_possible, along_scalar, along_list, along_object, along_more, along_first, along_member, same_faults, err_checks}
use Rattle.es_mapping.proofs.checking.+checking.Goals as goal

pub check_within-returns-then-is_empty : goal.check_within-returns-then-is_empty
check_within-returns-then-is_empty t c =
    let possible = c.args.possible in
    sym (nothing_possible (option_copied possible.field) possible.from possible.fields.now (paths_of c.args.tree.now)
    (no_field possible.field c.is_none.result c.is_none.ensures c.if-is_none.true) (nil_from_length possible.fields.now ((Decides-eqb (length possible.fields.now) 0).0 (sym c.if-is_empty.ensures))))

pub check_within-returns-in-List : goal.check_within-returns-in-List
check_within-returns-in-List t c =
    subst (λ (o : Option (List ℕ × FieldType)). Checks c.check_items.result o) (along_list (rest_of c.args.possible) c.args.tree.now c.in-List.items c.as_slice.result.now c.in-List.is c.as_slice.ensures) c.check_items.ensures

pub check_within-returns-in-Object : goal.check_within-returns-in-Object
check_within-returns-in-Object t c =
    subst (λ (o : Option (List ℕ × FieldType)). Checks c.check_members.result o) (along_object (rest_of c.args.possible) c.args.tree.now c.in-Object.members c.in-Object.is) c.check_members.ensures

pub check_within-returns-in-Null : goal.check_within-returns-in-Null
check_within-returns-in-Null t c =
    subst (λ (o : Option (List ℕ × FieldType)). Checks c.check_scalar.result o) (along_scalar (rest_of c.args.possible) c.args.tree.now c.in-Null.is) c.check_scalar.ensures

pub check_items-returns-in_err-check_within : goal.check_items-returns-in_err-check_within
check_items-returns-in_err-check_within t c =
    let l = c.loop-item in
    let rest = rest_of c.args.possible in
    let xs = c.args.items.now in
    let x = c.item-item.result in
    let more = drop (l.item-index + 1) xs in
    let fault = c.in_err-check_within.field-0.0 in
    let here : drop l.item-index xs ≡ x ∷ more = drop_more xs l.item-index x (omega arith) ∙ ap (λ y. y ∷ more) (sym c.item-item.is) in
    let whole : IsFault fault (first_along rest (flat_map paths_of xs)) =
    same_faults fault _ _ (ap (λ ys. first_along rest (flat_map paths_of ys)) (sym here) ∙ l.invariant) (along_first rest paths_of x more fault c.in_err-check_within.ensures) in
    err_checks c.from_residual.result _ (first_along rest (flat_map paths_of xs)) c.from_residual.ensures.1 (λ e is. search (rules, whole))

pub check_members-returns-in_err-check_within : goal.check_members-returns-in_err-check_within
check_members-returns-in_err-check_within t c =
    let l = c.loop-member in
    let rest = rest_of c.args.possible in
    let behind = rest_of c.behind.result in
    let f : Named Tree → List Path = λ m. extended m.name (paths_of m.value) in
    let xs = c.as_slice-member-items.result.now in
    let x = c.member-item.result in
    let more = drop (l.member-index + 1) xs in
    let fault = c.in_err-check_within.field-0.0 in
    let here : drop l.member-index xs ≡ x ∷ more = drop_more xs l.member-index x (omega arith) ∙ ap (λ y. y ∷ more) (sym c.member-item.is) in
    let name : c.as_bytes-name.result.now ≡ x.name = c.as_bytes-name.ensures.value ∙ c.text.ensures in
    let same : first_along behind (paths_of x.value) ≡ first_along rest (f x) = along_member rest behind x c.as_bytes-name.result.now name c.behind.ensures.field c.behind.ensures.fields in
    let whole : IsFault fault (first_along rest (flat_map f c.args.members.now)) =
    same_faults fault _ _ (ap (λ ys. first_along rest (flat_map f ys)) (sym here) ∙ l.invariant)
    (along_first rest f x more fault (same_faults fault _ _ same c.in_err-check_within.ensures)) in
    err_checks c.from_residual.result _ (first_along rest (flat_map f c.args.members.now)) c.from_residual.ensures.1 (λ e is. search (rules, whole))

pub check_items-loop-item-preserved : goal.check_items-loop-item-preserved
check_items-loop-item-preserved t c =
    let l = c.loop-item in
    let rest = rest_of c.args.possible in
    let xs = c.args.items.now in
    let x = c.item-item.result in
    let more = drop (l.item-index + 1) xs in
    let here : drop l.item-index xs ≡ x ∷ more = drop_more xs l.item-index x (omega arith) ∙ ap (λ y. y ∷ more) (sym c.item-item.is) in
    along_more rest paths_of x more c.in_ok-check_within.ensures ∙ ap (λ ys. first_along rest (flat_map paths_of ys)) (sym here) ∙ l.invariant

pub check_members-loop-member-preserved : goal.check_members-loop-member-preserved
check_members-loop-member-preserved t c =
    let l = c.loop-member in
    let rest = rest_of c.args.possible in
    let behind = rest_of c.behind.result in
    let f : Named Tree → List Path = λ m. extended m.name (paths_of m.value) in
    let xs = c.as_slice-member-items.result.now in
    let x = c.member-item.result in
    let more = drop (l.member-index + 1) xs in
    let here : drop l.member-index xs ≡ x ∷ more = drop_more xs l.member-index x (omega arith) ∙ ap (λ y. y ∷ more) (sym c.member-item.is) in
    let name : c.as_bytes-name.result.now ≡ x.name = c.as_bytes-name.ensures.value ∙ c.text.ensures in
    let same : first_along behind (paths_of x.value) ≡ first_along rest (f x) = along_member rest behind x c.as_bytes-name.result.now name c.behind.ensures.field c.behind.ensures.fields in
    along_more rest f x more (sym same ∙ c.in_ok-check_within.ensures) ∙ ap (λ ys. first_along rest (flat_map f ys)) (sym here) ∙ l.invariant
