use Rattle.std.proofs.Common.{◌≡◌, drop}
use Rattle.es_template.specs.Sources.{stands_behind}
use Rattle.es_template.proofs.sources.stands_behind.Given as goal

abbrev pub invariant-loop-byte : goal.invariant-loop-byte
invariant-loop-byte l = stands_behind l.after (drop l.byte-index l.byte-items) ≡ stands_behind l.fn.standing l.text
