use Rattle.std.proofs.Common.{refl, ◌∙◌, sym, codes}
use Rattle.httparse.specs.Spans.{header_bytes}
use Rattle.es_wire.specs.Framing.{values_of}
use Rattle.es_wire.proofs.FramingLemmas.{any_hit, any_same, any_miss}
use Rattle.es_wire.proofs.TimesLemmas.{same_name, map_more}
use Rattle.es_wire.proofs.fields.has_coding.Goals as goal
use Rattle.es_wire.proofs.fields.has_coding.Goals.{then-eq_ignore_ascii_case+then-names_coding, else-eq_ignore_ascii_case, else-eq_ignore_ascii_case-via-then-eq_ignore_ascii_case+else-names_coding, else-eq_ignore_ascii_case-via-else-eq_ignore_ascii_case}

pub loop-header-init : goal.loop-header-init
unfolding values_of
loop-header-init c = refl

pub loop-header-preserved : goal.loop-header-preserved
loop-header-preserved c =
    let more = map_more (header_bytes c.args.front.now) c.args.headers.now c.loop-header.header-index _ c.loop-header-test.true in
    let name = rw c.of.ensures at (same_name _ (codes "content-encoding") _ c.eq_ignore_ascii_case.ensures.test) in
    elim c.if-eq_ignore_ascii_case.branch [
      | then-eq_ignore_ascii_case+then-names_coding w ↦
          let value = rw w.of-then-eq_ignore_ascii_case.ensures at w.names_coding.ensures in
          rw (w.found-is, more) (any_hit _ _ _ _ (name ∙ w.if-eq_ignore_ascii_case.true) (sym value ∙ w.if-names_coding.true))
      | else-eq_ignore_ascii_case w ↦
          elim w.else-eq_ignore_ascii_case.branch [
            | else-eq_ignore_ascii_case-via-then-eq_ignore_ascii_case+else-names_coding w' ↦
                let value = rw w'.of-then-eq_ignore_ascii_case.ensures at w'.names_coding.ensures in
                rw (w.found-is, more) (c.loop-header.invariant ∙ any_same _ _ _ _ (name ∙ w'.if-eq_ignore_ascii_case.true) (sym value ∙ w'.if-names_coding.false))
            | else-eq_ignore_ascii_case-via-else-eq_ignore_ascii_case w' ↦
                rw (w.found-is, more) (c.loop-header.invariant ∙ any_miss _ _ _ _ (name ∙ w'.if-eq_ignore_ascii_case.false))
          ]
    ]
