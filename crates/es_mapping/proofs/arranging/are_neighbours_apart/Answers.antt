use Rattle.std.proofs.Common.{◌≤◌, ◌-◌, ◌∙◌, sym, drop, length, arith}
use Rattle.std.proofs.lemmas.List.{length-drop}
use Rattle.es_mapping.proofs.Apart.{neighbours_few}
use Rattle.es_mapping.proofs.arranging.are_neighbours_apart.Goals as goal

pub returns : goal.returns
returns c =
    let fields = c.args.fields.now in
    let at = c.loop-at.at in
    let few : length (drop (at - 1) fields) ≤ 1 = omega (arith, length-drop (at - 1) fields) in
    sym (neighbours_few (drop (at - 1) fields) few) ∙ c.loop-at.invariant.1
