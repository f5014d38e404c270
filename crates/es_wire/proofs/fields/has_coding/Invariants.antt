use Rattle.std.proofs.Common.{◌≡◌, map, take, codes}
use Rattle.std.specs.List.{list_any}
use Rattle.httparse.specs.Spans.{header_bytes}
use Rattle.es_wire.specs.Framing.{values_of, is_coding}
use Rattle.es_wire.proofs.fields.has_coding.Given as goal

-- whether one of the fields passed so far says so
abbrev pub invariant-loop-header : goal.invariant-loop-header
invariant-loop-header l =
    l.found ≡ list_any is_coding (values_of (codes "content-encoding") (map (header_bytes l.front) (take l.header-index l.headers)))
