use Rattle.std.proofs.Common.{rules}
use Rattle.std.proofs.lemmas.Bool.Decides.{nat_tests}
use Rattle.std.proofs.lemmas.Iterator.{YieldsList-from_slice}
use Rattle.std.proofs.lemmas.Iterator.Search.{all_from_yields_List}
use Rattle.es_drill.specs.Lines.{is_letter}
use Rattle.es_drill.proofs.Cutting.{are_all}
use Rattle.es_drill.proofs.lines.is_method.Goals as goal

pub returns-then-not-is_empty : goal.returns-then-not-is_empty
returns-then-not-is_empty c =
    let text = c.args.text.now in
    let all = all_from_yields_List is_letter _ _ c.all.result c.all.ensures.ran (YieldsList-from_slice text cc) (λ x b q k. search (rules, nat_tests)) in
    are_all is_letter text c.all.result c.if-not-is_empty.ensures all
