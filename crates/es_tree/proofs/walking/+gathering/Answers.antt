use Rattle.std.proofs.Common.{◌≡◌, ◌+◌, ◌∷◌, ◌++◌, map, drop, sym, ap, ◌∙◌, arith}
use Rattle.std.specs.List.{flat_map}
use Rattle.std.proofs.lemmas.List.{drop_more}
use Rattle.std.proofs.lemmas.Result.{on_ok_weaker}
use Rattle.es_tree.specs.Leaves.{paths_of, leaf_at, extended}
use Rattle.es_tree.proofs.Paths.{paths_of-List, paths_of-Object, more_leaves}
use Rattle.es_tree.proofs.walking.+gathering.Goals as goal

pub add_leaves-returns-in-List : goal.add_leaves-returns-in-List
add_leaves-returns-in-List t c =
    let is = ap paths_of c.in-List.is ∙ paths_of-List c.in-List.items ∙ ap (flat_map paths_of) (sym c.as_slice.ensures) in
    on_ok_weaker c.add_items.result (λ e. e ∙ ap (λ ps. c.args.found.now ++ map (leaf_at c.args.is_top c.args.path.now) ps) (sym is)) c.add_items.ensures

pub add_leaves-returns-in-Object : goal.add_leaves-returns-in-Object
add_leaves-returns-in-Object t c =
    let is = ap paths_of c.in-Object.is ∙ paths_of-Object c.in-Object.members in
    on_ok_weaker c.add_members.result (λ e. e ∙ ap (λ ps. c.args.found.now ++ map (leaf_at c.args.is_top c.args.path.now) ps) (sym is)) c.add_members.ensures

pub add_members-loop-member-preserved : goal.add_members-loop-member-preserved
add_members-loop-member-preserved t c =
    let l = c.loop-member in
    let ms = c.as_slice-member-items.result.now in
    let m = c.member-item.result in
    let top = c.args.is_top in
    let path = c.args.path.now in
    let more = drop (l.member-index + 1) ms in
    let here : drop l.member-index ms ≡ m ∷ more = drop_more ms l.member-index m (omega arith) ∙ ap (λ y. y ∷ more) (sym c.member-item.is) in
    sym (ap (λ ys. l.found ++ map (leaf_at top path) (flat_map (λ n. extended n.name (paths_of n.value)) ys)) here
    ∙ more_leaves top path m more l.found c.add_leaves.new.found c.in_ok-below.below c.in_ok-below.ensures c.in_ok-add_leaves.ensures) ∙ l.invariant
