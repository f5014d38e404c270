use Rattle.std.proofs.Common.{arith}
use Rattle.std.proofs.lemmas.Str.Pattern.{split_once_first}
use Rattle.es_drill.proofs.Cutting.{cut_at}
use Rattle.es_drill.proofs.lines.cut_of.Goals as goal

pub returns : goal.returns
returns c = cut_at c.args.text.now c.split_once.result (split_once_first 32 c.args.text.now c.split_once.result c.split_once.ensures.cases (omega arith))
