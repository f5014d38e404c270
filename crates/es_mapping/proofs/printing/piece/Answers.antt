use Rattle.std.proofs.Common.{◌≡◌, ◌∙◌, ap, lit<, slice_get}
use Rattle.std.proofs.lemmas.Iterator.Consumers.{nth_from_yields_List}
use Rattle.std.proofs.lemmas.Iterator.Splits.{YieldsList-from_str_split}
use Rattle.es_mapping.proofs.Pieces.{split-pieces}
use Rattle.es_mapping.proofs.printing.piece.Goals as goal

pub returns : goal.returns
returns c =
    nth_from_yields_List c.nth.result _ c.args.depth c.nth.ensures.ran (YieldsList-from_str_split 46 c.args.path.now (lit< tt) c.split.ensures.text c.split.ensures.has_more c.split.ensures.pattern)
    ∙ ap (λ parts. slice_get parts c.args.depth) (split-pieces c.args.path.now)
