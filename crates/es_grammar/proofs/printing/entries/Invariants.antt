use Rattle.std.proofs.Common.{◌≡◌, map, take, IsTrue, Ok}
use Rattle.std.specs.List.{AllByRecursion}
use Rattle.es_grammar.specs.Printing.{named_tree}
use Rattle.es_grammar.proofs.printing.entries.Given as goal

abbrev pub invariant-loop-entry : goal.invariant-loop-entry
invariant-loop-entry g l = (l.found ≡ map (named_tree g.F.Prints.tree) (take l.entry-index l.entry-items)) × AllByRecursion (λ m. IsTrue (g.F.Form.sound m.value) → g.F.Form.form (g.F.Prints.tree m.value) ≡ Ok m.value) (take l.entry-index l.entry-items)
