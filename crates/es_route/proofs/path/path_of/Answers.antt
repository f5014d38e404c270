use Rattle.std.proofs.Common.{None, arith}
use Rattle.std.proofs.lemmas.Str.Pattern.{strip_prefix_char}
use Rattle.es_route.proofs.Slashes.{behind_slash}
use Rattle.es_route.proofs.path.path_of.Goals as goal

pub returns-in-None : goal.returns-in-None
returns-in-None c = let found = behind_slash c.args.path.now c.requires in absurd (strip_prefix_char 47 c.args.path.now None c.in-None.ensures.cases (omega arith) found.0 found.1)
