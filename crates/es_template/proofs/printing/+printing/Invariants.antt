use Rattle.std.proofs.Common.{◌≡◌, map, take}
use Rattle.es_grammar.specs.Printing.{named_tree}
use Rattle.es_template.specs.Printed.{template_tree}
use Rattle.es_template.proofs.printing.+printing.Given as goal

abbrev pub invariant-trees_of-loop-template : goal.invariant-trees_of-loop-template
invariant-trees_of-loop-template l = l.trees ≡ map template_tree (take l.template-index l.templates)

abbrev pub invariant-members_of-loop-member : goal.invariant-members_of-loop-member
invariant-members_of-loop-member l = l.found ≡ map (named_tree template_tree) (take l.member-index l.member-items)
