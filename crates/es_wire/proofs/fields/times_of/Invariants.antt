use Rattle.std.proofs.Common.{◌≡◌, length, map, take}
use Rattle.httparse.specs.Spans.{IsWithin, header_bytes}
use Rattle.es_wire.specs.Framing.{once_of, values_of}
use Rattle.es_wire.specs.Times.{once_at, IfOnce}
use Rattle.es_wire.proofs.fields.times_of.Given as goal

abbrev pub invariant-loop-header : goal.invariant-loop-header
invariant-loop-header l =
    (once_at l.front l.found ≡ once_of (values_of l.name (map (header_bytes l.front) (take l.header-index l.headers))))
    × IfOnce l.found (IsWithin (length l.front))
