use Rattle.std.proofs.Common.{◌≡◌, drop, fold}
use Rattle.std.specs.List.{flat_map}
use Rattle.es_path.specs.Reached.{left_of, reached, reached_in}
use Rattle.es_path.proofs.walking.+visiting.Given as goal

-- what was kept, and then what is left, is the whole
abbrev pub invariant-visit_items-loop-item : goal.invariant-visit_items-loop-item
invariant-visit_items-loop-item g l =
    fold g.V.ScalarVisitor.after l.visitor (flat_map (reached (left_of l.left)) (drop l.item-index l.items))
    ≡ fold g.V.ScalarVisitor.after l.initial.visitor (flat_map (reached (left_of l.left)) l.items)

abbrev pub invariant-visit_members-loop-member : goal.invariant-visit_members-loop-member
invariant-visit_members-loop-member g l =
    fold g.V.ScalarVisitor.after l.visitor (flat_map (reached_in l.names) (drop l.member-index l.member-items))
    ≡ fold g.V.ScalarVisitor.after l.initial.visitor (flat_map (reached_in l.names) l.members)
