use Rattle.std.proofs.Common.{◌≡◌, ◌+◌, ◌∷◌, ◌||◌, drop, sym, ap, ◌∙◌, arith}
use Rattle.std.specs.List.{list_any, flat_map}
use Rattle.std.proofs.lemmas.List.{drop_more}
use Rattle.es_path.specs.Reached.{left_of, reached_in}
use Rattle.es_path.proofs.Reaching.{reached_list, reached_object, reached_object_end, reached_member, reached_member_none, skipped, found_first}
use Rattle.es_path.proofs.walking.+testing.Goals as goal
use Rattle.es_path.proofs.walking.+testing.Goals.{any_in_members-in-Some, any_in_members-in-None}

pub any_within-returns-in-List : goal.any_within-returns-in-List
any_within-returns-in-List g t c =
    let p = g.T.ScalarTest.holds_of c.args.test.now in
    c.any_in_items.ensures ∙ ap (list_any p) (reached_list c.args.left c.args.tree.now c.in-List.items c.as_slice.result.now c.in-List.is c.as_slice.ensures)

pub any_within-returns-in-Some : goal.any_within-returns-in-Some
any_within-returns-in-Some g t c =
    let p = g.T.ScalarTest.holds_of c.args.test.now in
    c.any_in_members.ensures ∙ ap (list_any p) (reached_object c.args.left c.in-Some.names c.args.tree.now c.in-Object.members c.in-Object.is c.in-Some.is)

pub any_within-returns-in-None : goal.any_within-returns-in-None
any_within-returns-in-None g t c =
    let p = g.T.ScalarTest.holds_of c.args.test.now in
    sym (ap (list_any p) (reached_object_end c.args.left c.args.tree.now c.in-Object.members c.in-Object.is c.in-None.is))

pub any_in_members-loop-member-preserved : goal.any_in_members-loop-member-preserved
any_in_members-loop-member-preserved g t c =
    let l = c.loop-member in
    let p = g.T.ScalarTest.holds_of c.args.test.now in
    let f = reached_in c.args.names.now in
    let xs = c.as_slice-member-items.result.now in
    let x = c.member-item.result in
    let more = drop (l.member-index + 1) xs in
    let here : drop l.member-index xs ≡ x ∷ more = drop_more xs l.member-index x (omega arith) ∙ ap (λ y. y ∷ more) (sym c.member-item.is) in
    let is : c.match-left_behind.reaches ≡ list_any p (f x) = elim c.match-left_behind.branch [
      | any_in_members-in-Some w ↦ w.reaches-is ∙ w.any_within-reaches.ensures ∙ ap (list_any p) (reached_member c.args.names.now c.as_bytes.result.now x (left_of w.in-Some.left) w.in-Some.ensures (c.as_bytes.ensures.value ∙ c.text.ensures))
      | any_in_members-in-None w ↦ w.reaches-is ∙ ap (list_any p) (reached_member_none c.args.names.now c.as_bytes.result.now x w.in-None.ensures (c.as_bytes.ensures.value ∙ c.text.ensures))
    ] in
    skipped l.found p f x more (sym is ∙ c.if-reaches.false) ∙ ap (λ ys. l.found || list_any p (flat_map f ys)) (sym here) ∙ l.invariant

pub any_in_members-returns-then-reaches : goal.any_in_members-returns-then-reaches
any_in_members-returns-then-reaches g t c =
    let l = c.loop-member in
    let p = g.T.ScalarTest.holds_of c.args.test.now in
    let f = reached_in c.args.names.now in
    let xs = c.as_slice-member-items.result.now in
    let x = c.member-item.result in
    let more = drop (l.member-index + 1) xs in
    let here : drop l.member-index xs ≡ x ∷ more = drop_more xs l.member-index x (omega arith) ∙ ap (λ y. y ∷ more) (sym c.member-item.is) in
    let is : c.match-left_behind.reaches ≡ list_any p (f x) = elim c.match-left_behind.branch [
      | any_in_members-in-Some w ↦ w.reaches-is ∙ w.any_within-reaches.ensures ∙ ap (list_any p) (reached_member c.args.names.now c.as_bytes.result.now x (left_of w.in-Some.left) w.in-Some.ensures (c.as_bytes.ensures.value ∙ c.text.ensures))
      | any_in_members-in-None w ↦ w.reaches-is ∙ ap (list_any p) (reached_member_none c.args.names.now c.as_bytes.result.now x w.in-None.ensures (c.as_bytes.ensures.value ∙ c.text.ensures))
    ] in
    sym (found_first l.found p f x more (sym is ∙ c.if-reaches.true)) ∙ ap (λ ys. l.found || list_any p (flat_map f ys)) (sym here) ∙ l.invariant
