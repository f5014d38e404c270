use Rattle.std.proofs.Common.{◌≡◌, map, take, codes}
use Rattle.std.specs.List.{list_any}
use Rattle.httparse.specs.Spans.{header_bytes}
use Rattle.es_wire.specs.Framing.{values_of, has_close}
use Rattle.es_wire.proofs.fields.asks_close.Given as goal

-- whether one of the fields passed so far says so
abbrev pub invariant-loop-header : goal.invariant-loop-header
invariant-loop-header l =
    l.found ≡ list_any has_close (values_of (codes "connection") (map (header_bytes l.front) (take l.header-index l.headers)))
