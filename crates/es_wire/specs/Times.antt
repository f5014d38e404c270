-- How often a field stands.
use Rattle.std.specs.Prelude.{ℕ, List, ⊤}
use Rattle.httparse.specs.declared.spans.Span.{Span}
use Rattle.httparse.specs.Spans.{span_bytes}
use Rattle.es_wire.specs.declared.request.Once.{Once}
use Rattle.es_wire.specs.declared.request.Once.TheVariants.{Absent, One, Twice}
use Rattle.es_wire.specs.declared.fields.Times.{Times}
use Rattle.es_wire.specs.declared.fields.Times.TheVariants as times

-- the value in the buffer
abbrev pub once_at : List ℕ → Times → Once
once_at buf times.Never = Absent
once_at buf (times.Once span) = One (span_bytes buf span)
once_at buf times.Again = Twice

-- P of the span, if the field stands once
abbrev pub IfOnce : Times → (Span → Type 0) → Type 0
IfOnce times.Never P = ⊤
IfOnce (times.Once span) P = P span
IfOnce times.Again P = ⊤
