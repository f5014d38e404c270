use Rattle.std.proofs.Common.{◌≡◌, map, take}
use Rattle.json.specs.Print.{quoted}
use Rattle.es_reply.proofs.texts.all_quoted.Given as goal

abbrev pub invariant-loop-text : goal.invariant-loop-text
invariant-loop-text l = l.strings ≡ map quoted (take l.text-index l.texts)
