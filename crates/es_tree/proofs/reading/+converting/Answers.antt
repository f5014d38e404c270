use Rattle.std.proofs.Common.{◌≡◌, [], ◌∷◌, Some, append-nil, option_map, sym, ap, ◌∙◌, arith}
use Rattle.std.proofs.lemmas.Grind.{common_steps}
use Rattle.serde_json.specs.View.{members_view}
use Rattle.es_tree.specs.declared.tree.Tree.{Tree}
use Rattle.es_tree.specs.declared.tree.Named.{Named}
use Rattle.es_tree.specs.Order.{is_ordered}
use Rattle.es_tree.specs.Read.{members_of}
use Rattle.es_tree.proofs.Fronts.{with_front, with_front-push, all_push, rising-members_of}
use Rattle.es_tree.proofs.Induction.{is_ordered-List, is_ordered-Object}
use Rattle.es_tree.proofs.reading.+converting.Goals as goal

pub members_from-loop-key-preserved : goal.members_from-loop-key-preserved
members_from-loop-key-preserved t c =
    let l = c.loop-key in
    let left = c.next.new.self in
    let m : Named Tree = record { name = c.from_string-name.result; value = c.in_ok-value.value } in
    let iter : l.key-iterator ≡ (c.in-Some.key, c.in-Some.member) ∷ left = grind (arith, common_steps) in
    let step : members_of (members_view l.key-iterator) ≡ option_map (λ rest. m ∷ rest) (members_of (members_view left)) =
    ap (λ es. members_of (members_view es)) iter ∙ rw (c.in_ok-value.ensures.value, c.from_string-name.ensures) in (
      l.invariant.0 ∙ ap (with_front l.found) step ∙ with_front-push l.found m (members_of (members_view left)) ∙ ap (λ f. with_front f (members_of (members_view left))) (sym c.in_ok-push.ensures.ok),
      all_push (λ y. is_ordered y.value) l.found m c.push.new.self c.in_ok-push.ensures.ok l.invariant.1 c.in_ok-value.ensures.ordered,
    )

pub members_from-of-requires : goal.members_from-of-requires
members_from-of-requires t c =
    let l = c.loop-key in
    let over : l.key-iterator ≡ [] = grind (arith, common_steps) in
    let whole : members_of (members_view c.args.entries.entries) ≡ Some l.found =
    l.invariant.0 ∙ ap (λ es. with_front l.found (members_of (members_view es))) over ∙ ap Some (append-nil l.found) in
    rising-members_of c.args.entries.entries l.found c.len.ensures.ordered whole

pub tree_from-returns-in_ok-trees_from-in-Array-clause-ordered :
    goal.tree_from-returns-in_ok-trees_from-in-Array-clause-ordered
tree_from-returns-in_ok-trees_from-in-Array-clause-ordered t c = is_ordered-List c.in_ok-trees_from-in-Array.field-0 ∙ c.in_ok-trees_from-in-Array.ensures.ordered

pub tree_from-returns-in_ok-members_from-in-Object-clause-ordered :
    goal.tree_from-returns-in_ok-members_from-in-Object-clause-ordered
tree_from-returns-in_ok-members_from-in-Object-clause-ordered t c =
    let found = c.in_ok-members_from-in-Object in
    is_ordered-Object found.field-0 ∙ rw (found.ensures.rising, found.ensures.ordered)
