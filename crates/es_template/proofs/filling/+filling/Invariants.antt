use Rattle.std.proofs.Common.{◌≡◌, map, take}
use Rattle.es_grammar.specs.Printing.{named_tree}
use Rattle.es_template.specs.Filling.{filled}
use Rattle.es_template.proofs.filling.+filling.Given as goal

abbrev pub invariant-filled_trees-loop-template : goal.invariant-filled_trees-loop-template
invariant-filled_trees-loop-template l = l.trees ≡ map (filled l.person) (take l.template-index l.templates)

abbrev pub invariant-filled_members-loop-member : goal.invariant-filled_members-loop-member
invariant-filled_members-loop-member l = l.found ≡ map (named_tree (filled l.person)) (take l.member-index l.member-items)
