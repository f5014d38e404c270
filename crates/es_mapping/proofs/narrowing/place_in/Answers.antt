use Rattle.std.proofs.Common.{◌++◌, ◌∷◌, [], length, ap, arith}
use Rattle.std.proofs.lemmas.List.{length-append, length-drop}
use Rattle.es_mapping.specs.Possible.{left_from}
use Rattle.es_mapping.proofs.Narrowed.{long_enough}
use Rattle.es_mapping.proofs.narrowing.place_in.Goals as goal

pub returns : goal.returns
returns c =
    let name = c.args.name.now in
    let field = c.args.field.now in
    omega (arith, long_enough (name ++ 46 ∷ []) (left_from c.args.from field) c.requires, length-append name (46 ∷ []), length-drop c.args.from field.name, ap length c.left.ensures, c.len.ensures)
