use Rattle.std.proofs.Common.{None, arith}
use Rattle.std.proofs.lemmas.Str.Pattern.{strip_prefix_char}
use Rattle.es_grammar.proofs.Dots.{undotted_same}
use Rattle.es_grammar.proofs.places.undotted.Goals as goal

pub returns-in-None : goal.returns-in-None
returns-in-None c = undotted_same c.args.inside.now (strip_prefix_char 46 c.args.inside.now None c.in-None.ensures.cases (omega arith))
