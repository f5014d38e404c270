use Rattle.std.proofs.Common.{◌≡◌, ◌+◌, List, ◌∷◌, ◌++◌, Option, Some, None, drop, refl, ap, sym, ◌∙◌, append_assoc, arith}
use Rattle.std.specs.List.{filter_map, cons_option}
use Rattle.std.specs.Option.{option_to_list}
use Rattle.std.proofs.lemmas.List.{drop_more}
use Rattle.std.proofs.lemmas.Grind.{common_steps}
use Rattle.es_tree.specs.declared.tree.Tree.{Tree}
use Rattle.es_tree.specs.declared.tree.Named.{Named}
use Rattle.es_fields.specs.Projection.{NamesTest, test_behind, member_if, list_if_any, left_of}
use Rattle.es_fields.specs.Trails.{grants_behind, left_in}
use Rattle.es_fields.proofs.Left.{left_of-List, grants_behind-longer}
use Rattle.es_fields.proofs.Rising.{rising_at_end}
use Rattle.es_fields.proofs.projecting.+projecting.Goals as goal
use Rattle.es_fields.proofs.projecting.+projecting.Goals.{members_left-in-Some+in_ok-push, members_left-in_default}

one_more : (o : Option (Named Tree)) (ms : List (Named Tree)) → option_to_list o ++ ms ≡ cons_option o ms
one_more None ms = refl
one_more (Some m) ms = refl

more_members : (granted : NamesTest) (old new : List (Named Tree)) (o : Option (Named Tree)) (m : Named Tree) (more items : List (Named Tree)) → o ≡ left_in granted m → new ≡ old ++ option_to_list o → items ≡ m ∷ more
    → new ++ filter_map (left_in granted) more ≡ old ++ filter_map (left_in granted) items
more_members granted old new o m more items is pushed all =
    let rest = filter_map (left_in granted) more in
    ap (λ (ms : List (Named Tree)). ms ++ rest) pushed ∙ append_assoc old (option_to_list o) rest
    ∙ ap (λ (ms : List (Named Tree)). old ++ ms) (one_more o rest ∙ ap (λ (p : Option (Named Tree)). cons_option p rest) is ∙ sym (ap (filter_map (left_in granted)) all))

pub left_of-returns-in_ok-items-in-List-clause-left : goal.left_of-returns-in_ok-items-in-List-clause-left
left_of-returns-in_ok-items-in-List-clause-left t c =
    let granted = grants_behind c.args.rule.now c.args.trail.now in
    let is = ap (λ tree. left_of tree granted) c.in-List.is ∙ left_of-List c.in-List.items granted in
    c.list_if_any.ensures ∙ ap list_if_any (c.in_ok-items-in-List.ensures.left ∙ rw c.as_slice.ensures refl) ∙ sym is

pub members_left-loop-member-preserved : goal.members_left-loop-member-preserved
members_left-loop-member-preserved t c =
    let l = c.loop-member in
    let m = c.member-item.result in
    let items = c.as_slice-member-items.result.now in
    let rule = c.args.rule.now in
    let granted = grants_behind rule c.args.trail.now in
    let more = drop (l.member-index + 1) items in
    let here : drop l.member-index items ≡ m ∷ more = drop_more items l.member-index m (omega arith) ∙ ap (λ y. y ∷ more) (sym c.member-item.is) in
    let entered : c.enter.new.self ≡ c.args.trail.now ++ (46 ∷ m.name) = c.in_ok-place.ensures.trail ∙ rw (l.invariant.1, c.text.ensures) refl in
    let longer = ap (grants_behind rule) entered ∙ grants_behind-longer rule c.args.trail.now m.name in
    let value : c.in_ok-value.value ≡ left_of m.value (test_behind granted m.name) = c.in_ok-value.ensures.left ∙ ap (left_of m.value) longer in
    let is : c.in_ok-member.field-0 ≡ left_in granted m = c.in_ok-member.ensures ∙ ap (member_if m.name) value in
    let pushed : c.match-branch-4.left ≡ l.left ++ option_to_list c.in_ok-member.field-0 =
    elim c.match-branch-4.branch [ members_left-in-Some+in_ok-push w ↦ rw w.in-Some.is (grind (arith, common_steps)) | members_left-in_default w ↦ rw w.in_default.is (grind (arith, common_steps)) ] in
    (more_members granted l.left c.match-branch-4.left c.in_ok-member.field-0 m more (drop l.member-index items) is pushed here ∙ l.invariant.0, grind (arith, common_steps))

pub members_left-of-requires : goal.members_left-of-requires
members_left-of-requires t c =
    rising_at_end (grants_behind c.args.rule.now c.args.trail.now) c.loop-member.left c.as_slice-member-items.result.now c.args.members.now c.loop-member.member-index c.loop-member.invariant.0 c.loop-member-test.false c.as_slice-member-items.ensures.rising
