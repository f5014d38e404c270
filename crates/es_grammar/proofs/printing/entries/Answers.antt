use Rattle.std.proofs.Common.{◌∙◌}
use Rattle.es_grammar.proofs.Fronts.{printed_rising, entries_back}
use Rattle.es_grammar.proofs.printing.entries.Goals as goal

pub of-requires : goal.of-requires
of-requires g c =
    let l = c.loop-entry in
    let slice = c.as_slice-entry-items in
    printed_rising g.F.Prints.tree c.args.values.now slice.result.now l.entry-index l.found slice.ensures.items l.invariant.0 c.loop-entry-test.false slice.ensures.rising

pub returns-clause-reads_back : goal.returns-clause-reads_back
returns-clause-reads_back g c = λ sound.
    let l = c.loop-entry in
    let slice = c.as_slice-entry-items in
    entries_back g.N.Name.permits g.F.Form.sound g.F.Form.form g.F.Prints.tree c.args.values.now slice.result.now l.entry-index c.of.result slice.ensures.items (c.of.ensures ∙ l.invariant.0) l.invariant.1 c.loop-entry-test.false sound
