use Rattle.std.proofs.Common.{◌≡◌, ◌+◌, ◌∷◌, drop, fold, sym, ap, ◌∙◌, arith}
use Rattle.std.specs.List.{flat_map}
use Rattle.std.proofs.lemmas.List.{drop_more}
use Rattle.std.proofs.lemmas.Result.{on_ok_weaker}
use Rattle.es_path.specs.Reached.{left_of, reached, reached_in}
use Rattle.es_path.proofs.Reaching.{reached_here, reached_not_here, reached_list, reached_object, reached_object_end, reached_member, reached_member_none, more_visited}
use Rattle.es_path.proofs.walking.+visiting.Goals as goal
use Rattle.es_path.proofs.walking.+visiting.Goals.{visit_members-in-Some+in_ok-visit_within-in-Some, visit_members-in-None}

pub visit_within-returns-in-List : goal.visit_within-returns-in-List
visit_within-returns-in-List g t c =
    let h = g.V.ScalarVisitor.after in
    let is = reached_list c.args.left c.args.tree.now c.in-List.items c.as_slice.result.now c.in-List.is c.as_slice.ensures in
    on_ok_weaker c.visit_items.result (λ e. e ∙ ap (λ l. fold h c.args.visitor.now l) is) c.visit_items.ensures

pub visit_within-returns-in-Some : goal.visit_within-returns-in-Some
visit_within-returns-in-Some g t c =
    let h = g.V.ScalarVisitor.after in
    let is = reached_object c.args.left c.in-Some.names c.args.tree.now c.in-Object.members c.in-Object.is c.in-Some.is in
    on_ok_weaker c.visit_members.result (λ e. e ∙ ap (λ l. fold h c.args.visitor.now l) is) c.visit_members.ensures

pub visit_within-returns-in-None : goal.visit_within-returns-in-None
visit_within-returns-in-None g t c =
    let h = g.V.ScalarVisitor.after in
    let is = reached_object_end c.args.left c.args.tree.now c.in-Object.members c.in-Object.is c.in-None.is in
    sym (ap (λ l. fold h c.args.visitor.now l) is)

pub visit_within-returns-then-left : goal.visit_within-returns-then-left
visit_within-returns-then-left g t c =
    let h = g.V.ScalarVisitor.after in
    let is = reached_here (left_of c.args.left) c.args.tree.now c.in-Null.is c.if-left.true in
    on_ok_weaker c.visit.result (λ e. e ∙ ap (λ l. fold h c.args.visitor.now l) (sym is)) c.visit.ensures

pub visit_within-returns-else-left : goal.visit_within-returns-else-left
visit_within-returns-else-left g t c =
    let h = g.V.ScalarVisitor.after in
    let is = reached_not_here (left_of c.args.left) c.args.tree.now c.in-Null.is c.if-left.false in
    sym (ap (λ l. fold h c.args.visitor.now l) is)

pub visit_items-loop-item-preserved : goal.visit_items-loop-item-preserved
visit_items-loop-item-preserved g t c =
    let l = c.loop-item in
    let h = g.V.ScalarVisitor.after in
    let f = reached (left_of c.args.left) in
    let xs = c.args.items.now in
    let x = c.item-item.result in
    let more = drop (l.item-index + 1) xs in
    let here : drop l.item-index xs ≡ x ∷ more = drop_more xs l.item-index x (omega arith) ∙ ap (λ y. y ∷ more) (sym c.item-item.is) in
    sym (ap (λ ys. fold h l.visitor (flat_map f ys)) here ∙ more_visited h f x more l.visitor c.visit_within.new.visitor c.in_ok-visit_within.ensures) ∙ l.invariant

pub visit_members-loop-member-preserved : goal.visit_members-loop-member-preserved
visit_members-loop-member-preserved g t c =
    let l = c.loop-member in
    let h = g.V.ScalarVisitor.after in
    let f = reached_in c.args.names.now in
    let xs = c.as_slice-member-items.result.now in
    let x = c.member-item.result in
    let more = drop (l.member-index + 1) xs in
    let here : drop l.member-index xs ≡ x ∷ more = drop_more xs l.member-index x (omega arith) ∙ ap (λ y. y ∷ more) (sym c.member-item.is) in
    let is : c.match-left_behind.visitor ≡ fold h l.visitor (f x) = elim c.match-left_behind.branch [
      | visit_members-in-Some+in_ok-visit_within-in-Some w ↦ w.visitor-is ∙ w.in_ok-visit_within-in-Some.ensures ∙ ap (λ ts. fold h l.visitor ts) (reached_member c.args.names.now c.as_bytes.result.now x (left_of w.in-Some.left) w.in-Some.ensures (c.as_bytes.ensures.value ∙ c.text.ensures))
      | visit_members-in-None w ↦ w.visitor-is ∙ ap (λ ts. fold h l.visitor ts) (reached_member_none c.args.names.now c.as_bytes.result.now x w.in-None.ensures (c.as_bytes.ensures.value ∙ c.text.ensures))
    ] in
    sym (ap (λ ys. fold h l.visitor (flat_map f ys)) here ∙ more_visited h f x more l.visitor c.match-left_behind.visitor is) ∙ l.invariant
