use Rattle.std.proofs.Common.{refl, ◌∙◌, sym, ◌<◌, ℕ, length}
use Rattle.httparse.specs.Spans.{header_bytes, IsHeaderWithin}
use Rattle.std.proofs.lemmas.List.Elements.{All-get_or}
use Rattle.es_wire.specs.Framing.{values_of}
use Rattle.es_wire.proofs.TimesLemmas.{same_name, values_miss, map_more, hit_never, hit_again}
use Rattle.es_wire.proofs.fields.times_of.Goals as goal
use Rattle.es_wire.proofs.fields.times_of.Goals.{then-eq_ignore_ascii_case+in-Never, then-eq_ignore_ascii_case+in_default, else-eq_ignore_ascii_case}

pub loop-header-init : goal.loop-header-init
unfolding values_of
loop-header-init c = (refl, tt)

pub loop-header-preserved : goal.loop-header-preserved
loop-header-preserved c =
    let more = map_more (header_bytes c.args.front.now) c.args.headers.now c.loop-header.header-index _ c.loop-header-test.true in
    let within = λ (i : ℕ) (lt : i < length c.args.headers.now). (All-get_or (IsHeaderWithin (length c.args.front.now)) c.args.headers.now i _ lt c.requires).1 in
    let name = rw c.of.ensures at (same_name _ _ _ c.eq_ignore_ascii_case.ensures.test) in
    elim c.if-eq_ignore_ascii_case.branch [
      | then-eq_ignore_ascii_case+in-Never w ↦ (
        rw (w.found-is, more) (hit_never _ _ _ _ _ c.loop-header.invariant.0 w.in-Never.is (name ∙ w.if-eq_ignore_ascii_case.true)),
        rw w.found-is (within c.loop-header.header-index c.loop-header-test.true),
      )
      | then-eq_ignore_ascii_case+in_default w ↦ (
        rw (w.found-is, more) (hit_again _ _ _ _ _ c.loop-header.invariant.0 w.in_default.not-Never (name ∙ w.if-eq_ignore_ascii_case.true)),
        rw w.found-is tt,
      )
      | else-eq_ignore_ascii_case w ↦ (rw (w.found-is, more) (c.loop-header.invariant.0 ∙ sym (values_miss _ _ _ (name ∙ w.if-eq_ignore_ascii_case.false))), rw w.found-is c.loop-header.invariant.1)
    ]
