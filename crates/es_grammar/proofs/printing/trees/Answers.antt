use Rattle.es_grammar.proofs.Fronts.{printed_back}
use Rattle.es_grammar.proofs.printing.trees.Goals as goal

pub returns-clause-reads_back : goal.returns-clause-reads_back
returns-clause-reads_back g c = λ sound.
    let l = c.loop-item in
    printed_back g.F.Form.sound g.F.Form.form g.F.Prints.tree c.args.items.now l.item-index l.found l.invariant.0 l.invariant.1 c.loop-item-test.false sound
