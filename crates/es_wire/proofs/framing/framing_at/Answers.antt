use Rattle.std.proofs.Common.{sym, ◌∙◌, ap}
use Rattle.es_wire.specs.Framing.{length_framing}
use Rattle.es_wire.proofs.FramingLemmas.{framing-coded, framing-encoded, framing-length, absent_not, absent_is}
use Rattle.es_wire.proofs.framing.framing_at.Goals as goal

pub returns-in_default : goal.returns-in_default
returns-in_default c = framing-coded _ (absent_not _ _ _ c.times_of.ensures.value c.in_default.not-Never)

pub returns-then-has_coding : goal.returns-then-has_coding
returns-then-has_coding c =
    framing-encoded _ (absent_is _ _ _ c.times_of.ensures.value c.in-Never.is) (sym c.has_coding.ensures ∙ c.if-has_coding.true)

pub returns-in-Never-times_of : goal.returns-in-Never-times_of
returns-in-Never-times_of c =
    let r = framing-length _ (absent_is _ _ _ c.times_of.ensures.value c.in-Never.is) (sym c.has_coding.ensures ∙ c.if-has_coding.false) in
    ap length_framing (c.in-Never-times_of.ensures.value) ∙ r

pub returns-in-Once : goal.returns-in-Once
returns-in-Once c =
    let r = framing-length _ (absent_is _ _ _ c.times_of.ensures.value c.in-Never.is) (sym c.has_coding.ensures ∙ c.if-has_coding.false) in
    c.length_at.ensures ∙ rw c.of.ensures (ap length_framing c.in-Once.ensures.value ∙ r)

pub returns-in-Again : goal.returns-in-Again
returns-in-Again c =
    let r = framing-length _ (absent_is _ _ _ c.times_of.ensures.value c.in-Never.is) (sym c.has_coding.ensures ∙ c.if-has_coding.false) in
    ap length_framing (c.in-Again.ensures.value) ∙ r
