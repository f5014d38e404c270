use Rattle.std.proofs.Common.{◌≡◌, take}
use Rattle.std.specs.List.{flat_map}
use Rattle.es_template.specs.Printed.{piece_text}
use Rattle.es_template.proofs.printing.pieces_text.Given as goal

abbrev pub invariant-loop-piece : goal.invariant-loop-piece
invariant-loop-piece l = l.text ≡ flat_map piece_text (take l.piece-index l.pieces)
