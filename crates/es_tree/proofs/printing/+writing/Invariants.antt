use Rattle.std.proofs.Common.{◌≡◌, ◌++◌, map, drop, take, true}
use Rattle.json.specs.Print.{print, ends_value}
use Rattle.std.specs.List.{list_all}
use Rattle.es_tree.specs.Order.{is_fitting, is_ordered}
use Rattle.es_tree.specs.Text.{text_of, member_text}
use Rattle.es_tree.specs.Adds.{more_texts}
use Rattle.es_tree.proofs.printing.+writing.Given as goal

-- what is written, with what is left, is the whole
abbrev pub invariant-write_items-loop-item : goal.invariant-write_items-loop-item
invariant-write_items-loop-item l =
    (print l.out.tokens ++ more_texts (ends_value l.out.tokens) (map text_of (drop l.item-index l.items)) ≡ print l.initial.out.tokens ++ more_texts (ends_value l.initial.out.tokens) (map text_of l.items))
    × (l.out.before ≡ l.initial.out.before) × (list_all is_fitting (take l.item-index l.items) ≡ true) × (list_all is_ordered (take l.item-index l.items) ≡ true)

abbrev pub invariant-write_members-loop-member : goal.invariant-write_members-loop-member
invariant-write_members-loop-member l =
    (print l.out.tokens ++ more_texts (ends_value l.out.tokens) (map member_text (drop l.member-index l.member-items)) ≡ print l.initial.out.tokens ++ more_texts (ends_value l.initial.out.tokens) (map member_text l.members))
    × (l.out.before ≡ l.initial.out.before) × (list_all (λ m. is_fitting m.value) (take l.member-index l.member-items) ≡ true) × (list_all (λ m. is_ordered m.value) (take l.member-index l.member-items) ≡ true)
