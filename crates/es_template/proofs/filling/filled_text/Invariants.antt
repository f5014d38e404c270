use Rattle.std.proofs.Common.{◌≡◌, take}
use Rattle.std.specs.List.{flat_map}
use Rattle.es_template.specs.Filling.{filled_piece}
use Rattle.es_template.proofs.filling.filled_text.Given as goal

abbrev pub invariant-loop-piece : goal.invariant-loop-piece
invariant-loop-piece l = l.text ≡ flat_map (filled_piece l.person) (take l.piece-index l.pieces)
