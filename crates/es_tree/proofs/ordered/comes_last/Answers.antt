use Rattle.std.proofs.Common.{◌∙◌, sym, ap}
use Rattle.es_tree.specs.Rising.{is_before}
use Rattle.es_tree.proofs.Names.{is_last-last}
use Rattle.es_tree.proofs.ordered.comes_last.Goals as goal

pub returns-in-Some : goal.returns-in-Some
returns-in-Some g c =
    let last = is_last-last c.args.name.now c.args.items.now c.in-Some.last.now c.requires (sym c.in-Some.ensures.value) in
    c.lt.ensures ∙ ap (λ n. is_before n c.args.name.now) c.text.ensures ∙ sym last
