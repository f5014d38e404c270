use Rattle.std.proofs.Common.{◌≡◌, drop, true}
use Rattle.std.specs.List.{list_all}
use Rattle.es_grammar.specs.Values.{items_of}
use Rattle.es_grammar.proofs.Fronts.{with_front}
use Rattle.es_grammar.proofs.lists.items.Given as goal

abbrev pub invariant-loop-number : goal.invariant-loop-number
invariant-loop-number g l = (with_front l.found (items_of g.F.Form.form l.number (drop l.number l.trees)) ≡ items_of g.F.Form.form 0 l.trees) × (list_all g.F.Form.sound l.found ≡ true)
