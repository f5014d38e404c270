use Rattle.std.proofs.Common.{◌≡◌, map, take}
use Rattle.es_tree.specs.declared.tree.Tree as tree
use Rattle.es_template.proofs.filling.texts.Given as goal

abbrev pub invariant-loop-item : goal.invariant-loop-item
invariant-loop-item l = l.trees ≡ map tree.Text (take l.item-index l.items)
