use Rattle.std.proofs.Common.{◌≡◌, map, take, IsTrue, Ok}
use Rattle.std.specs.List.{AllByRecursion}
use Rattle.es_grammar.proofs.printing.trees.Given as goal

abbrev pub invariant-loop-item : goal.invariant-loop-item
invariant-loop-item g l = (l.found ≡ map g.F.Prints.tree (take l.item-index l.items)) × AllByRecursion (λ x. IsTrue (g.F.Form.sound x) → g.F.Form.form (g.F.Prints.tree x) ≡ Ok x) (take l.item-index l.items)
