use Rattle.std.proofs.Common.{◌∙◌}
use Rattle.es_mapping.proofs.Narrowed.{goes_on_short, goes_on_no_dot, goes_on_dot}
use Rattle.es_mapping.proofs.narrowing.goes_on.Goals as goal
use Rattle.es_mapping.proofs.narrowing.goes_on.Goals.{then-text-name-via-then-text-name, then-text-name-via-else-text-name+then-text-name-ne46}

pub returns-then-text-name : goal.returns-then-text-name
returns-then-text-name c =
    elim c.then-text-name.branch [
      | then-text-name-via-then-text-name w ↦ goes_on_short c.args.text.now c.args.name.now w.if-text-name.true
      | then-text-name-via-else-text-name+then-text-name-ne46 w ↦ goes_on_no_dot c.args.text.now c.args.name.now w.if-text-name.false w.if-text-name-ne46.true
    ]

pub returns : goal.returns
returns c = c.starts_with.ensures.value ∙ goes_on_dot c.args.text.now c.args.name.now c.if-text-name.false c.if-text-name-ne46.false
